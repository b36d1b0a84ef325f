use Rattle.std.proofs.Common.{ℕ, ◌+◌, ◌<◌, ◌≤◌}
use Rattle.std.specs.Prelude.{◌<ℤ◌}
use Rattle.host_bounds.specs.Bounding.{bound_at}
use Rattle.host_bounds.proofs.levels.first_between.Given as goal

abbrev pub invariant-loop-i : goal.invariant-loop-i
invariant-loop-i l = (k : ℕ) → l.start ≤ k → k < l.start + l.i → l.now <ℤ bound_at l.bounds k
