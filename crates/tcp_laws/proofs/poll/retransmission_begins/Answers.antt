use Rattle.tcp_laws.proofs.Speaking.{retransmission_begins}
use Rattle.tcp_laws.proofs.poll.retransmission_begins.Goals as goal

pub returns : goal.returns
returns c = retransmission_begins
