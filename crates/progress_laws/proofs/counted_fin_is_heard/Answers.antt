use Rattle.progress_laws.proofs.Counted.{counted_fin_is_heard}
use Rattle.progress_laws.proofs.counted_fin_is_heard.Goals as goal

pub returns : goal.returns
returns c = counted_fin_is_heard
