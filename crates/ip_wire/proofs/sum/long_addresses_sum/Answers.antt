use Rattle.ip_wire.proofs.Sums.{both_sums}
use Rattle.ip_wire.specs.Address.{octets_of}
use Rattle.ip_wire.proofs.sum.long_addresses_sum.Goals as goal

pub returns-clause-value : goal.returns-clause-value
returns-clause-value c = both_sums (octets_of c.args.src.now) (octets_of c.args.dst.now) _ _ c.address_sum.ensures.value c.address_sum-2.ensures.value
