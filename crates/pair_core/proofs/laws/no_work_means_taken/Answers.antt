use Rattle.pair_core.proofs.PairQuiet.{no_work_taken_by_a, no_work_taken_by_b}
use Rattle.pair_core.proofs.laws.no_work_means_taken.Goals as goal

pub returns-clause-of_a : goal.returns-clause-of_a
returns-clause-of_a g c = no_work_taken_by_b c.no_work_no_bytes.ensures

pub returns-clause-of_b : goal.returns-clause-of_b
returns-clause-of_b g c = no_work_taken_by_a c.no_work_no_bytes.ensures
