use Rattle.pair_core.proofs.PairPromises.{delivers_promptly}
use Rattle.pair_core.proofs.laws.pairs_deliver_at_once.Goals as goal

pub returns : goal.returns
returns g c = delivers_promptly g.G.TsvalSource.tells
