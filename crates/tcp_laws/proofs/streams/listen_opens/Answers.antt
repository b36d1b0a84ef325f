use Rattle.std.proofs.Common.{refl}
use Rattle.tcp_laws.specs.SocketRun.{Listen}
use Rattle.tcp_laws.proofs.streams.listen_opens.Goals as goal

pub returns-clause-call : goal.returns-clause-call
returns-clause-call g c k = Listen c.args.local _ c.listen.ensures.table refl
