use Rattle.tcp_laws.proofs.Clocks.{wake_up_is_bounded}
use Rattle.tcp_laws.proofs.poll.wake_up_is_bounded.Goals as goal

pub returns : goal.returns
returns c = wake_up_is_bounded
