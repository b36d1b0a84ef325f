use Rattle.std.proofs.Common.{◌≡◌, ℕ, ◌-◌, ◌<◌, ◌≤◌, length}
use Rattle.std.specs.Prelude.{IfSome, slice_get}
use Rattle.net_host.specs.Slots.{IsFree}
use Rattle.net_host.proofs.iter.IterIterator.next.Given as goal

abbrev pub invariant-loop-slot : goal.invariant-loop-slot
invariant-loop-slot g l = record {
  order : l.fn.self.index ≤ l.self.index;
  slots : l.self.slots.now ≡ l.fn.self.slots.now;
  before : (k : ℕ) → l.fn.self.index ≤ k → k < l.self.index → IfSome (slice_get l.fn.self.slots.now k) (λ s. IsFree s);
}

abbrev pub decreases-loop-slot : goal.decreases-loop-slot
decreases-loop-slot g l = length l.self.slots.now - l.self.index
