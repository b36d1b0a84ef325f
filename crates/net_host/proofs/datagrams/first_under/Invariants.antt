use Rattle.net_host.specs.Datagrams.{TakesDatagram}
use Rattle.net_host.proofs.Runs.{Passed}
use Rattle.net_host.proofs.datagrams.first_under.Given as goal

abbrev pub invariant-loop-p : goal.invariant-loop-p
invariant-loop-p g l = Passed (TakesDatagram (g.C.Context.facts l.cx) l.ip l.repr) l.slots l.index.entries l.key l.p
