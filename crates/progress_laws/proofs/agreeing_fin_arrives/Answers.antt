use Rattle.progress_laws.proofs.Arrivals.{agreeing_fin_arrives}
use Rattle.progress_laws.proofs.agreeing_fin_arrives.Goals as goal

pub returns : goal.returns
returns c = agreeing_fin_arrives
