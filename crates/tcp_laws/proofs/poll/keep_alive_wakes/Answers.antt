use Rattle.tcp_laws.proofs.Sleeping.{keep_alive_wakes}
use Rattle.tcp_laws.proofs.poll.keep_alive_wakes.Goals as goal

pub returns : goal.returns
returns c = keep_alive_wakes
