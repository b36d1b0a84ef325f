use Rattle.pair_core.proofs.ShownDispatch.{emission_plans}
use Rattle.pair_core.proofs.laws.emission_plans.Goals as goal

pub returns : goal.returns
returns c = λ v released taken bounds. emission_plans v released taken bounds
