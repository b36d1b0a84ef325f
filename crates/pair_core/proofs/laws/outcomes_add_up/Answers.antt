use Rattle.pair_core.proofs.PairAdding.{run_adds_up, step_adds_up}
use Rattle.pair_core.proofs.laws.outcomes_add_up.Goals as goal

pub returns : goal.returns
returns g c = record { step = step_adds_up g.G.TsvalSource.tells; run = run_adds_up g.G.TsvalSource.tells }
