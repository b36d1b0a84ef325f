use Rattle.tcp_laws.proofs.Clocks.{keep_alive_is_bounded}
use Rattle.tcp_laws.proofs.poll.keep_alive_is_bounded.Goals as goal

pub returns : goal.returns
returns c = keep_alive_is_bounded
