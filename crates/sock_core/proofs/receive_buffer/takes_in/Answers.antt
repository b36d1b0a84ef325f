use Rattle.sock_core.proofs.Receiving.{takes_in_all}
use Rattle.sock_core.proofs.receive_buffer.takes_in.Goals as goal

pub returns : goal.returns
returns c = λ b o ys l. takes_in_all b o ys l.0 l.1
