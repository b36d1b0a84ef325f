use Rattle.progress_laws.proofs.Closes.{one_way_finishes}
use Rattle.progress_laws.proofs.one_way_finishes.Goals as goal

pub returns : goal.returns
returns c = one_way_finishes
