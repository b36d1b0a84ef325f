use Rattle.progress_laws.proofs.LostAck.{lost_ack_comes_again}
use Rattle.progress_laws.proofs.lost_ack_comes_again.Goals as goal

pub returns : goal.returns
returns c = lost_ack_comes_again
