use Rattle.std.proofs.Common.{◌<◌, ℕ}
use Rattle.std.specs.Prelude.{slice_get, IfSome}
use Rattle.control_wire.specs.Segment.{segment_of}
use Rattle.net_host.specs.Segments.{TakesSegment}
use Rattle.net_host.proofs.segments.walk_for_taker.Given as goal

abbrev pub invariant-loop-i : goal.invariant-loop-i
invariant-loop-i g l = (k : ℕ) → k < l.i → IfSome (slice_get l.slots k) (λ x. TakesSegment l.listening l.ip (segment_of l.repr) x → ⊥)
