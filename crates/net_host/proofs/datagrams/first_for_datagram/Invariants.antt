use Rattle.std.proofs.Common.{◌<◌, ℕ}
use Rattle.std.specs.Prelude.{slice_get, IfSome}
use Rattle.net_host.specs.Datagrams.{TakesDatagram}
use Rattle.net_host.proofs.datagrams.first_for_datagram.Given as goal

abbrev pub invariant-loop-i : goal.invariant-loop-i
invariant-loop-i g l = (k : ℕ) → k < l.i → IfSome (slice_get l.slots k) (λ x. TakesDatagram (g.C.Context.facts l.cx) l.ip l.repr x → ⊥)
