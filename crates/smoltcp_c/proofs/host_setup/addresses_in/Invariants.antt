-- The loop of `addresses_in` has made as many as it has passed.
use Rattle.std.proofs.Common.{◌≡◌, map}
use Rattle.std.specs.Prelude.{take}
use Rattle.smoltcp_c.specs.Host.{cidr_in}
use Rattle.smoltcp_c.proofs.host_setup.addresses_in.Given as goal

abbrev pub invariant-loop-address : goal.invariant-loop-address
invariant-loop-address l = l.made.items ≡ map (λ c. cidr_in c) (take l.address-index l.addresses)
