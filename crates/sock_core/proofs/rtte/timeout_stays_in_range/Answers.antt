use Rattle.sock_core.proofs.Estimators.{fresh_stays_in_range}
use Rattle.sock_core.proofs.rtte.timeout_stays_in_range.Goals as goal

pub returns : goal.returns
returns c = fresh_stays_in_range
