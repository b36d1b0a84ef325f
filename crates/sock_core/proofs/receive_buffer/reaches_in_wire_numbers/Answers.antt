use Rattle.sock_core.proofs.ReceiveBuffers.{reaches_in_wire_numbers}
use Rattle.sock_core.proofs.receive_buffer.reaches_in_wire_numbers.Goals as goal

pub returns : goal.returns
returns c = λ nxt number lo hi r. reaches_in_wire_numbers nxt number lo hi r.0 r.1 r.2 r.3
