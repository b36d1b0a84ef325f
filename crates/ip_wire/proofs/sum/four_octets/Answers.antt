use Rattle.std.proofs.Common.{◌+◌, ap, sym, ◌∙◌}
use Rattle.ip_wire.specs.Sum.{word_of}
use Rattle.ip_wire.proofs.Sums.{four_octets}
use Rattle.ip_wire.proofs.sum.four_octets.Goals as goal

pub returns-clause-value : goal.returns-clause-value
returns-clause-value c = λ total.
    four_octets total c.args.octets.now (λ k h. c.fits-octets k) c.told-octets
    ∙ ap (λ v. word_of (total + v)) (sym c.be32_at.ensures.value)
