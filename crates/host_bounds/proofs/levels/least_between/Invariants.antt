use Rattle.std.proofs.Common.{◌+◌}
use Rattle.host_bounds.specs.Bounding.{IsBelow, IsGreatestOf}
use Rattle.host_bounds.proofs.levels.least_between.Given as goal

abbrev pub invariant-loop-bound : goal.invariant-loop-bound
invariant-loop-bound l = record {
  below : IsBelow l.least l.bounds l.start (l.start + l.bound-index);
  greatest : IsGreatestOf l.least l.bounds l.start (l.start + l.bound-index);
}
