use Rattle.tcp_laws.proofs.Repeating.{acks_repeat_only_so}
use Rattle.tcp_laws.proofs.poll.acks_repeat_only_so.Goals as goal

pub returns : goal.returns
returns c = acks_repeat_only_so
