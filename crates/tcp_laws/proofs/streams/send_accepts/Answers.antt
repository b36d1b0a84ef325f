use Rattle.tcp_laws.proofs.CallsAsSteps.{sends_any}
use Rattle.tcp_laws.proofs.streams.send_accepts.Goals as goal

pub returns : goal.returns
returns g c = sends_any _ c.args.socket.now.control_block _ _ c.send.ensures.table
