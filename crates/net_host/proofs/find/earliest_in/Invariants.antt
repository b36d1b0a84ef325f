use Rattle.std.specs.Prelude.{nat_eq}
use Rattle.control_wire.specs.Segment.{segment_of}
use Rattle.net_host.specs.Filing.{rest_major}
use Rattle.net_host.specs.Resting.{RestsUntil}
use Rattle.net_host.proofs.Asking.{Ran}
use Rattle.net_host.proofs.Moments.{PassedAll}
use Rattle.net_host.proofs.find.earliest_in.Given as goal

abbrev pub invariant-loop-p : goal.invariant-loop-p
invariant-loop-p g l = record {
  passed : PassedAll (λ t x. RestsUntil l.ip (segment_of l.repr) t x) l.slots l.index.entries (rest_major l.repr.dst_port) l.p;
  ran : Ran (λ e. nat_eq e.major (rest_major l.repr.dst_port)) l.index.entries l.start l.p l.fn.asked.count l.asked.count;
}
