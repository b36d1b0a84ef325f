use Rattle.std.proofs.Common.{◌+◌, ap, sym, ◌∙◌}
use Rattle.ip_wire.specs.Sum.{swapped_word}
use Rattle.ip_wire.proofs.Sums.{four_swapped}
use Rattle.ip_wire.proofs.sum.swapped_octets.Goals as goal

pub returns-clause-value : goal.returns-clause-value
returns-clause-value c = λ start total.
    four_swapped start total c.args.octets.now (λ k h. c.fits-octets k) c.told-octets
    ∙ ap (λ v. swapped_word start (total + v)) (sym c.le32_at.ensures.value)
