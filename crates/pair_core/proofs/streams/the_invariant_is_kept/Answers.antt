use Rattle.pair_core.proofs.NetworkSteps.{step_keeps, swapped_keeps}
use Rattle.pair_core.proofs.NetworkRuns.{starts, both_delivered}
use Rattle.pair_core.proofs.streams.the_invariant_is_kept.Goals as goal

pub returns : goal.returns
returns c = record { start = starts; step = step_keeps; swapped = swapped_keeps; delivers = both_delivered }
