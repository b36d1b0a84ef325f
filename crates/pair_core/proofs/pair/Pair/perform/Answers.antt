use Rattle.pair_core.proofs.PairPromises.{prompt_delivery}
use Rattle.pair_core.proofs.pair.Pair.perform.Goals as goal

pub returns-in-Deliver-clause-prompt : goal.returns-in-Deliver-clause-prompt
returns-in-Deliver-clause-prompt g c = prompt_delivery g.G.TsvalSource.tells c.args.event.now c.in-Deliver.index c.in-Deliver.moment c.args.self.now c.deliver.new.self c.deliver.result c.in-Deliver.is c.deliver.ensures.step
