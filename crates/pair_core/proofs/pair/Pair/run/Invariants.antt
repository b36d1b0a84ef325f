use Rattle.std.proofs.Common.{◌≡◌, ◌+◌, length}
use Rattle.pair_core.specs.NetworkRuns.{Reaches}
use Rattle.pair_core.specs.PairNetwork.{network_of}
use Rattle.pair_core.specs.PairPromises.{Prefix, Begins, Release}
use Rattle.pair_core.specs.PairRuns.{Ran}
use Rattle.pair_core.proofs.pair.Pair.run.Given as goal

abbrev pub invariant-loop-event : goal.invariant-loop-event
invariant-loop-event g l =
    Reaches (network_of l.fn.self) (network_of l.self) × Prefix l.self × Begins l.self × Release l.self × Ran g.G.TsvalSource.tells l.events l.fn.self l.fn.outcomes.items l.outcomes.items l.self
    × (length l.outcomes.items ≡ length l.fn.outcomes.items + l.event-index)
