use Rattle.std.proofs.Common.{◌+◌, drop, ap, ◌∙◌}
use Rattle.ip_wire.specs.Sum.{le64_at, sum_after, swapped_word}
use Rattle.ip_wire.proofs.Sums.{thirty_two_more}
use Rattle.ip_wire.proofs.sum.add_thirty_two.Goals as goal

pub returns-clause-value : goal.returns-clause-value
returns-clause-value c = λ start.
    let n = c.args.total in
    let xs = c.args.bytes.now in
    let i = c.args.at in
    let second = c.le64_at-2.result in
    let third = c.le64_at-3.result in
    let last = c.le64_at-4.result in
    ap (λ v. sum_after v (drop (i + 32) xs))
    (ap (λ v. swapped_word start (n + v + second + third + last)) c.le64_at.ensures.value
    ∙ ap (λ v. swapped_word start (n + le64_at xs i + v + third + last)) c.le64_at-2.ensures.value
    ∙ ap (λ v. swapped_word start (n + le64_at xs i + le64_at xs (i + 8) + v + last)) c.le64_at-3.ensures.value
    ∙ ap (λ v. swapped_word start (n + le64_at xs i + le64_at xs (i + 8) + le64_at xs (i + 16) + v)) c.le64_at-4.ensures.value)
    ∙ thirty_two_more start n xs i (λ k h. (c.type_inv.bytes k).fits) c.requires.room
