use Rattle.net_host.proofs.Fair.{go_round}
use Rattle.net_host.proofs.fairness.turns_go_round.Goals as goal

pub returns : goal.returns
returns g c = go_round
