use Rattle.std.proofs.Common.{◌+◌, ◌*◌, ◌/◌, ◌∙◌, ap, arith, drop, length}
use Rattle.ip_wire.specs.Sum.{sum_after, swapped_word}
use Rattle.ip_wire.proofs.Sums.{last_four}
use Rattle.ip_wire.proofs.sum.add_four.Goals as goal

pub returns-clause-value : goal.returns-clause-value
returns-clause-value c = λ start.
    let xs = c.args.bytes.now in
    ap (λ v. sum_after (swapped_word start (c.args.total + v)) (drop (length xs / 4 * 4) xs)) c.le32_at.ensures.value
    ∙ last_four start c.args.total xs (λ k h. (c.type_inv.bytes k).fits) (omega (arith, c.if-bytes-lt4.false))
