use Rattle.net_host.proofs.Fair.{follow, go_on}
use Rattle.net_host.proofs.fairness.turns_follow.Goals as goal

pub returns-clause-follow : goal.returns-clause-follow
returns-clause-follow g c = follow g.G.TsvalSource.tells

pub returns-clause-go_on : goal.returns-clause-go_on
returns-clause-go_on g c = go_on
