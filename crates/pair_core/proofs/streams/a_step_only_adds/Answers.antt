use Rattle.pair_core.proofs.NetworkSteps.{step_adds}
use Rattle.pair_core.proofs.streams.a_step_only_adds.Goals as goal

pub returns : goal.returns
returns c = step_adds
