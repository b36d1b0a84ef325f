use Rattle.tcp_laws.proofs.Hearing.{third_duplicate_wakes}
use Rattle.tcp_laws.proofs.poll.third_duplicate_wakes.Goals as goal

pub returns : goal.returns
returns c = third_duplicate_wakes
