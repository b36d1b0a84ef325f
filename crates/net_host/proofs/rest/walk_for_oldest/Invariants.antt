use Rattle.control_wire.specs.Segment.{segment_of}
use Rattle.net_host.specs.Resting.{RestsUntil}
use Rattle.net_host.proofs.Oldest.{SoFar}
use Rattle.net_host.proofs.rest.walk_for_oldest.Given as goal

abbrev pub invariant-loop-i : goal.invariant-loop-i
invariant-loop-i g l = SoFar (λ t x. RestsUntil l.ip (segment_of l.repr) t x) l.slots l.i l.found
