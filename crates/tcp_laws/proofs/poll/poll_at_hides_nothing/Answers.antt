use Rattle.tcp_laws.proofs.Polling.{poll_hides_nothing}
use Rattle.tcp_laws.proofs.poll.poll_at_hides_nothing.Goals as goal

pub returns : goal.returns
returns c = poll_hides_nothing
