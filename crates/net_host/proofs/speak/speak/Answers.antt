use Rattle.ip_wire.specs.contracts.address.IpAddressPartialEq.TheImpl.{eq-value}
use Rattle.net_host.specs.Facts.{facts_by}
use Rattle.net_host.proofs.Steps.{nobody_left}
use Rattle.net_host.proofs.speak.speak.Goals as goal

pub returns-clause-quiet : goal.returns-clause-quiet
returns-clause-quiet g c = λ e. (nobody_left (facts_by eq-value.it c.args.cx.now.environment) g.G.TsvalSource.tells c.args.sockets.now.terms.guards _ _ _ _ _ _ _ _ _ c.speak_on.ensures.table e).0

pub returns-clause-seen : goal.returns-clause-seen
returns-clause-seen g c = λ e. (nobody_left (facts_by eq-value.it c.args.cx.now.environment) g.G.TsvalSource.tells c.args.sockets.now.terms.guards _ _ _ _ _ _ _ _ _ c.speak_on.ensures.table e).1
