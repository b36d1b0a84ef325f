use Rattle.std.proofs.Common.{◌-◌, ◌≤◌, ◌<◌, length, ℕ}
use Rattle.host_index.specs.Columns.{entry_in}
use Rattle.host_index.specs.Entries.{rank}
use Rattle.host_index.specs.Indexing.{number_at}
use Rattle.host_index.proofs.index.lower_between.Given as goal

abbrev pub invariant-loop-low : goal.invariant-loop-low
invariant-loop-low l = record {
  order : l.low ≤ l.high;
  within : l.high ≤ length l.order;
  below : (k : ℕ) → k < l.low → rank (entry_in l.columns (number_at l.order k)) < rank l.key;
  above : (k : ℕ) → l.high ≤ k → k < length l.order → rank l.key ≤ rank (entry_in l.columns (number_at l.order k));
}

abbrev pub decreases-loop-low : goal.decreases-loop-low
decreases-loop-low l = l.high - l.low
