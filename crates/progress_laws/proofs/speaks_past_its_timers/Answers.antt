use Rattle.progress_laws.proofs.Says.{speaks_past_its_timers}
use Rattle.progress_laws.proofs.speaks_past_its_timers.Goals as goal

pub returns : goal.returns
returns c = speaks_past_its_timers
