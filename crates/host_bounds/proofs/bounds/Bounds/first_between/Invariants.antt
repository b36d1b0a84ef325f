use Rattle.std.proofs.Common.{ℕ, ◌<◌, ◌≤◌}
use Rattle.std.specs.Prelude.{◌<ℤ◌}
use Rattle.host_bounds.specs.Bounding.{bound_at}
use Rattle.host_bounds.proofs.bounds.Bounds.first_between.Given as goal

abbrev pub invariant-loop-place : goal.invariant-loop-place
invariant-loop-place l = (k : ℕ) → l.start ≤ k → k < l.place → l.now <ℤ bound_at l.self k
