use Rattle.pair_core.proofs.PairAgrees.{b_agrees, a_agrees}
use Rattle.pair_core.proofs.laws.sides_agree.Goals as goal

pub returns-clause-of_a : goal.returns-clause-of_a
returns-clause-of_a g c = b_agrees

pub returns-clause-of_b : goal.returns-clause-of_b
returns-clause-of_b g c = a_agrees
