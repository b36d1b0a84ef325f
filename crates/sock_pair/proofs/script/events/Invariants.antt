use Rattle.std.proofs.Common.{length, map}
use Rattle.sock_pair.proofs.ScriptEvents.{HasRead}
use Rattle.pair_core.specs.EventValue.{event_value}
use Rattle.sock_pair.specs.ScriptText.{lines_left}
use Rattle.sock_pair.proofs.script.events.Given as goal

abbrev pub invariant-loop-line : goal.invariant-loop-line
invariant-loop-line l = HasRead (lines_left l.fn.lines.number l.fn.lines.rest.now) (lines_left l.lines.number l.lines.rest.now) (map event_value l.events.items)

abbrev pub decreases-loop-line : goal.decreases-loop-line
decreases-loop-line l = length l.lines.rest.now
