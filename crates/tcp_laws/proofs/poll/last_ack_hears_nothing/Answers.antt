use Rattle.tcp_laws.proofs.Hearing.{last_ack_hears_nothing}
use Rattle.tcp_laws.proofs.poll.last_ack_hears_nothing.Goals as goal

pub returns : goal.returns
returns c = last_ack_hears_nothing
