use Rattle.std.proofs.Common.{ap}
use Rattle.sock_tcp.specs.declared.socket.Socket.{Socket}
use Rattle.smoltcp_c.specs.declared.clock.Clock.{Clock}
use Rattle.smoltcp_c.proofs.ports.has_ports.Goals as goal

pub returns-clause-same : goal.returns-clause-same
returns-clause-same c = ap (λ (w : Socket Clock). record c.args.h.now { socket = w }) c.socket.ensures.value
