use Rattle.std.proofs.Common.{◌≡◌, ℕ, List}
use Rattle.std.specs.Prelude.{Result}
use Rattle.ip_wire.specs.contracts.address.IpAddressPartialEq.TheImpl.{eq-value}
use Rattle.sock_tcp.specs.View.{moment_of}
use Rattle.net_host.specs.Facts.{facts_by}
use Rattle.net_host.specs.Speaking.{Speaks}
use Rattle.net_host.specs.Telling.{TellsEnds}
use Rattle.net_host.specs.declared.counters.Counters.{Counters}
use Rattle.net_host.specs.declared.slot.Slot.{Slot}
use Rattle.net_host.specs.declared.wire.TooShort.{TooShort}
use Rattle.net_host.proofs.Measure.{left_turns}
use Rattle.net_host.proofs.speak.speak_on.Given as goal

abbrev pub invariant-loop-i : goal.invariant-loop-i
invariant-loop-i g l = record {
  terms : l.sockets.terms ≡ l.fn.sockets.terms;
  rest : (r : Result ℕ TooShort) (ts : List (Slot g.row.G.Denot)) (turn : ℕ) (k : Counters) (out : List ℕ) → Speaks (facts_by eq-value.it l.cx.environment) g.G.TsvalSource.tells l.fn.sockets.terms.guards l.sockets.slots.items l.turn l.counters l.out r ts turn k out → Speaks (facts_by eq-value.it l.cx.environment) g.G.TsvalSource.tells l.fn.sockets.terms.guards l.fn.sockets.slots.items l.fn.turn l.fn.counters l.fn.out r ts turn k out;
  ends : TellsEnds l.fn.sockets.slots.items l.fn.sockets.ended l.sockets.slots.items l.sockets.ended;
}

abbrev pub decreases-loop-i : goal.decreases-loop-i
decreases-loop-i g l = left_turns (moment_of (facts_by eq-value.it l.cx.environment)) l.sockets.slots.items
