use Rattle.pair_core.proofs.ShownProcess.{process_heard}
use Rattle.pair_core.proofs.laws.process_heard.Goals as goal

pub returns : goal.returns
returns c = process_heard
