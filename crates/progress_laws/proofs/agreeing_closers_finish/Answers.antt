use Rattle.progress_laws.proofs.Closers.{agreeing_closers_finish}
use Rattle.progress_laws.proofs.agreeing_closers_finish.Goals as goal

pub returns : goal.returns
returns c = agreeing_closers_finish
