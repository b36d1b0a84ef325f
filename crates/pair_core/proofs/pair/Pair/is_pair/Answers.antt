use Rattle.std.proofs.Common.{subst}
use Rattle.pair_core.specs.PairInvariant.{IsPair}
use Rattle.pair_core.proofs.pair.Pair.is_pair.Goals as goal

pub returns-clause-pair : goal.returns-clause-pair
returns-clause-pair g c = subst IsPair c.self.view_is c.self.invariant
