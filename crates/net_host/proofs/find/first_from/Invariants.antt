use Rattle.control_wire.specs.Segment.{segment_of}
use Rattle.net_host.specs.Asking.{has_key}
use Rattle.net_host.specs.Finding.{Fits}
use Rattle.net_host.proofs.Asking.{Ran}
use Rattle.net_host.proofs.Runs.{Passed}
use Rattle.net_host.proofs.find.first_from.Given as goal

abbrev pub invariant-loop-p : goal.invariant-loop-p
invariant-loop-p g l = record {
  passed : Passed (Fits l.sought l.ip (segment_of l.repr)) l.slots l.index.entries l.key l.p;
  ran : Ran (has_key l.key) l.index.entries l.from l.p l.fn.asked.count l.asked.count;
}
