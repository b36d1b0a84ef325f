use Rattle.progress_laws.proofs.FromOpening.{opened_pair_completes}
use Rattle.progress_laws.proofs.opened_pair_completes.Goals as goal

pub returns : goal.returns
returns c = opened_pair_completes
