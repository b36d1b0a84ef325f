use Rattle.tcp_laws.proofs.SocketSteps.{keeps_its_streams}
use Rattle.tcp_laws.proofs.streams.one_socket_keeps_its_streams.Goals as goal

pub returns : goal.returns
returns c = keeps_its_streams
