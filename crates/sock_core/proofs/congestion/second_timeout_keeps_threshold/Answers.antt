use Rattle.sock_core.proofs.Renos.{keeps_threshold}
use Rattle.sock_core.proofs.congestion.second_timeout_keeps_threshold.Goals as goal

pub returns : goal.returns
returns c = keeps_threshold
