use Rattle.tcp_laws.proofs.Awake.{never_sleeps}
use Rattle.tcp_laws.proofs.poll.never_sleeps_by_rfc.Goals as goal

pub returns : goal.returns
returns c = never_sleeps
