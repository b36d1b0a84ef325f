use Rattle.std.proofs.Common.{◌-◌, ◌≤◌, ◌<◌, ◌<ℤ◌, length, ℕ}
use Rattle.host_bounds.specs.Bounding.{bound_at}
use Rattle.host_bounds.proofs.times.Times.next.Given as goal

abbrev pub invariant-loop-place : goal.invariant-loop-place
invariant-loop-place l = record {
  behind : l.fn.start ≤ l.place;
  before : (k : ℕ) → l.fn.start ≤ k → k < l.place → k < length l.self → l.now <ℤ bound_at l.self k;
}

abbrev pub decreases-loop-place : goal.decreases-loop-place
decreases-loop-place l = l.end - l.place
