use Rattle.std.proofs.Common.{◌<◌, ℕ}
use Rattle.std.specs.Prelude.{slice_get, IfSome}
use Rattle.control_wire.specs.Segment.{segment_of}
use Rattle.net_host.specs.Resting.{Serves}
use Rattle.net_host.proofs.rest.walk_for_server.Given as goal

abbrev pub invariant-loop-i : goal.invariant-loop-i
invariant-loop-i g l = (k : ℕ) → k < l.i → IfSome (slice_get l.slots k) (λ x. Serves l.ip (segment_of l.repr) x → ⊥)
