use Rattle.progress_laws.proofs.Rounds.{one_way_completes}
use Rattle.progress_laws.proofs.one_way_completes.Goals as goal

pub returns : goal.returns
returns c = one_way_completes
