use Rattle.tcp_laws.proofs.Receiving.{only_appends}
use Rattle.tcp_laws.proofs.streams.process_only_appends.Goals as goal

pub returns : goal.returns
returns c = λ v. only_appends v.rules v
