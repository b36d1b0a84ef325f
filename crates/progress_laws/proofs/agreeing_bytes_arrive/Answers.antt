use Rattle.progress_laws.proofs.Arrivals.{agreeing_bytes_arrive}
use Rattle.progress_laws.proofs.agreeing_bytes_arrive.Goals as goal

pub returns : goal.returns
returns c = agreeing_bytes_arrive
