use Rattle.std.proofs.Common.{◌≡◌, take, false}
use Rattle.std.specs.List.{list_any}
use Rattle.net_host.specs.Addresses.{is_directed}
use Rattle.net_host.proofs.environment.has_directed.Given as goal

abbrev pub invariant-loop-i : goal.invariant-loop-i
invariant-loop-i l = list_any (λ c. is_directed c l.addr) (take l.i l.addresses) ≡ false
