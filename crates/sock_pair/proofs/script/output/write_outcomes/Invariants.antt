use Rattle.std.proofs.Common.{◌≡◌, false, map, take}
use Rattle.std.specs.Io.KnownBytes.{Appends}
use Rattle.pair_core.specs.Holding.{stored_of}
use Rattle.sock_pair.specs.ReplayLines.{outcome_lines}
use Rattle.sock_pair.proofs.script.output.write_outcomes.Given as goal

abbrev pub invariant-loop-outcome : goal.invariant-loop-outcome
invariant-loop-outcome g l =
    Appends (g.W.Sink.contents l.fn.sink) (g.W.Sink.contents l.sink) (outcome_lines (map stored_of l.segments) (take l.outcome-index l.outcomes))
    × (g.W.Sink.has_failed l.sink ≡ false)
