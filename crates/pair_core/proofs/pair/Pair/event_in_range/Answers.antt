use Rattle.std.proofs.Common.{subst, sym}
use Rattle.pair_core.specs.PairInvariant.{DeliversSmall}
use Rattle.pair_core.proofs.pair.Pair.event_in_range.Goals as goal

pub returns-in-Deliver : goal.returns-in-Deliver
returns-in-Deliver g c = subst (λ e. DeliversSmall e c.args.self.now) (sym c.in-Deliver.is) c.segment_in_range.ensures
