use Rattle.std.proofs.Common.{◌≡◌, ◌-◌}
use Rattle.net_host.specs.Telling.{TellsEnds}
use Rattle.net_host.specs.Touching.{UnmarksIn}
use Rattle.net_host.proofs.Walking.{Passes}
use Rattle.net_host.proofs.looking.due_between.Given as goal

abbrev pub invariant-loop-i : goal.invariant-loop-i
invariant-loop-i g l = record {
  terms : l.sockets.terms ≡ l.fn.sockets.terms;
  passes : Passes (g.C.Context.facts l.cx) l.fn.sockets.terms.guards l.fn.start l.end l.fn.sockets.slots.items l.from l.sockets.slots.items;
  ends : TellsEnds l.fn.sockets.slots.items l.fn.sockets.ended l.sockets.slots.items l.sockets.ended;
  unmarked : UnmarksIn l.fn.start l.from l.fn.sockets.bounds l.sockets.bounds;
}

abbrev pub decreases-loop-i : goal.decreases-loop-i
decreases-loop-i g l = l.end - l.from
