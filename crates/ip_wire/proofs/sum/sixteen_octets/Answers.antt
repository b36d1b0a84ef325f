use Rattle.std.proofs.Common.{◌+◌, sym, ◌∙◌}
use Rattle.ip_wire.specs.Sum.{word_of}
use Rattle.ip_wire.proofs.Sums.{sixteen_octets}
use Rattle.ip_wire.proofs.sum.sixteen_octets.Goals as goal

pub returns-clause-value : goal.returns-clause-value
returns-clause-value c = λ total.
    sixteen_octets total c.args.octets.now (λ k h. c.fits-octets k) c.told-octets
    ∙ sym (λ i. word_of (total + (c.be32_at.ensures.value i + c.be32_at-2.ensures.value i + c.be32_at-3.ensures.value i
    + c.be32_at-4.ensures.value i)))
