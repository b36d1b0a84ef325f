use Rattle.pair_core.proofs.PairPromises.{keeps_prefix, keeps_release}
use Rattle.pair_core.proofs.laws.pairs_deliver_in_order.Goals as goal

pub returns-clause-prefix : goal.returns-clause-prefix
returns-clause-prefix g c = keeps_prefix

pub returns-clause-release : goal.returns-clause-release
returns-clause-release g c = keeps_release
