use Rattle.tcp_laws.proofs.Sleeping.{sleeps_only_so}
use Rattle.tcp_laws.proofs.poll.sleeps_only_so.Goals as goal

pub returns : goal.returns
returns c = sleeps_only_so
