use Rattle.progress_laws.proofs.Wakes.{work_wakes_or_sleeps}
use Rattle.progress_laws.proofs.work_wakes_or_sleeps.Goals as goal

pub returns : goal.returns
returns c = work_wakes_or_sleeps
