use Rattle.tcp_laws.proofs.Guards.{timeout_wakes}
use Rattle.tcp_laws.proofs.poll.timeout_wakes.Goals as goal

pub returns : goal.returns
returns c = timeout_wakes
