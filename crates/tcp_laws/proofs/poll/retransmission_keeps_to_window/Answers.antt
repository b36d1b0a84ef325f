use Rattle.tcp_laws.proofs.PayloadWindows.{retransmission_keeps_to_window}
use Rattle.tcp_laws.proofs.poll.retransmission_keeps_to_window.Goals as goal

pub returns : goal.returns
returns c = retransmission_keeps_to_window
