use Rattle.tcp_laws.proofs.Sleeping.{no_work_no_bytes}
use Rattle.tcp_laws.proofs.poll.no_work_no_bytes.Goals as goal

pub returns : goal.returns
returns c = no_work_no_bytes
