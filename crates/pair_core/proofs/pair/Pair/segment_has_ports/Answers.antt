use Rattle.pair_core.proofs.PairPorts.{has_ports}
use Rattle.pair_core.proofs.pair.Pair.segment_has_ports.Goals as goal

pub returns : goal.returns
returns g c = has_ports c.args.self.now c.is_pair.ensures.pair c.args.index
