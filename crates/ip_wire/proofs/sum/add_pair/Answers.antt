use Rattle.std.proofs.Common.{◌+◌, ◌*◌, ◌/◌, ◌∙◌, ap, arith, drop, length}
use Rattle.ip_wire.specs.Sum.{sum_after, swapped_word}
use Rattle.ip_wire.proofs.Sums.{last_pair}
use Rattle.ip_wire.proofs.sum.add_pair.Goals as goal

pub returns-clause-value : goal.returns-clause-value
returns-clause-value c = λ start.
    let xs = c.args.bytes.now in
    ap (λ v. sum_after (swapped_word start (c.args.total + v)) (drop (length xs / 2 * 2) xs)) c.le16_at.ensures.value
    ∙ last_pair start c.args.total xs (λ k h. (c.type_inv.bytes k).fits) (omega (arith, c.if-bytes-lt2.false))
