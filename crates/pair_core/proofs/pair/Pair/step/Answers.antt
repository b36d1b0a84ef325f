use Rattle.pair_core.proofs.PairAdding.{adds_up_if}
use Rattle.pair_core.proofs.PairCompletes.{completes}
use Rattle.pair_core.proofs.PairReaches.{event_reaches_if}
use Rattle.pair_core.proofs.pair.Pair.step.Goals as goal

pub returns-clause-complete : goal.returns-clause-complete
returns-clause-complete g c = completes g.G.TsvalSource.tells c.args.event.now c.args.self.now c.perform-outcome.new.self c.perform-outcome.result c.is_pair.ensures.pair (record { a = c.is_pair.ensures.a; b = c.is_pair.ensures.b; delivered = c.event_in_range.ensures }) c.perform-outcome.ensures.step

pub returns-clause-streams : goal.returns-clause-streams
returns-clause-streams g c =
    event_reaches_if g.G.TsvalSource.tells c.args.event.now c.args.self.now c.perform-outcome.new.self c.perform-outcome.result c.is_pair.ensures.pair (record { a = c.is_pair.ensures.a; b = c.is_pair.ensures.b; delivered = c.event_in_range.ensures })
    c.perform-outcome.ensures.step c.perform-outcome.ensures.memory

pub returns-clause-adds : goal.returns-clause-adds
returns-clause-adds g c = adds_up_if g.G.TsvalSource.tells c.args.event.now c.args.self.now c.perform-outcome.new.self c.perform-outcome.result c.perform-outcome.ensures.step
