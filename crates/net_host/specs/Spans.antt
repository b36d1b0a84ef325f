-- Entries of an index whose keys lie between two.
use Rattle.std.specs.Prelude.{ℕ, ◌+◌, ◌<◌, ◌≤◌, ◌^◌, List, length, get_or}
use Rattle.host_index.specs.Entries.{nothing}
use Rattle.host_index.specs.declared.entry.Entry.{Entry}

-- they stand at fewer than `count` places, one behind the other
pub record LieWithin (es : List Entry) (first last count : ℕ) : Type 0 where
  pub start : ℕ
  pub inside : (j : ℕ) → j < length es → first ≤ (get_or es j nothing).major → (get_or es j nothing).major ≤ last
      → (get_or es j nothing).minor < 2 ^ 64 → (get_or es j nothing).place < 2 ^ 64
      → (start ≤ j) × (j + 1 < start + count)
