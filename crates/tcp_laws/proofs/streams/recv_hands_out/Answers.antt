use Rattle.tcp_laws.proofs.CallsAsSteps.{reads_any}
use Rattle.tcp_laws.proofs.streams.recv_hands_out.Goals as goal

pub returns : goal.returns
returns g c = reads_any _ c.args.socket.now.control_block _ _ c.recv.ensures.table
