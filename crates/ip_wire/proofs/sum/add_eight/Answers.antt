use Rattle.std.proofs.Common.{◌+◌, drop, ap, ◌∙◌}
use Rattle.ip_wire.specs.Sum.{sum_after, swapped_word}
use Rattle.ip_wire.proofs.Sums.{eight_octets_more}
use Rattle.ip_wire.proofs.sum.add_eight.Goals as goal

pub returns-clause-value : goal.returns-clause-value
returns-clause-value c = λ start.
    let total = c.args.total in
    let bytes = c.args.bytes.now in
    let at = c.args.at in
    ap (λ v. sum_after v (drop (at + 8) bytes))
    (ap (λ v. swapped_word start (total + v)) c.le64_at.ensures.value)
    ∙ eight_octets_more start total bytes at (λ k h. (c.type_inv.bytes k).fits) c.requires.room
