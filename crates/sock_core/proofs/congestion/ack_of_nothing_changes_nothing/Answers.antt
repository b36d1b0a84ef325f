use Rattle.sock_core.proofs.Renos.{nothing_acked}
use Rattle.sock_core.proofs.congestion.ack_of_nothing_changes_nothing.Goals as goal

pub returns : goal.returns
returns c = nothing_acked
