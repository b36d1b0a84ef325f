use Rattle.tcp_laws.proofs.Hearing.{window_wakes}
use Rattle.tcp_laws.proofs.poll.window_wakes.Goals as goal

pub returns : goal.returns
returns c = window_wakes
