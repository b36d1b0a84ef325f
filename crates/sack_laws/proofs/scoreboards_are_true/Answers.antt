use Rattle.sack_laws.proofs.Steps.{step_keeps}
use Rattle.sack_laws.proofs.scoreboards_are_true.Goals as goal

pub returns-clause-step : goal.returns-clause-step
returns-clause-step g c = step_keeps g.G.TsvalSource.tells
