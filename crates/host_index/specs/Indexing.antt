-- Keys in order, by their numbers.
use Rattle.std.specs.Prelude.{ℕ, ◌≡◌, ◌<◌, ◌≤◌, ◌+◌, ◌*◌, ◌/◌, false, List, length, get_or}
use mathlib.Core.List.{map}
use Rattle.host_index.specs.Columns.{AreAsMany, entry_in, how_many, is_free}
use Rattle.host_index.specs.Entries.{rank}
use Rattle.host_index.specs.declared.columns.Columns.{Columns}
use Rattle.host_index.specs.declared.entry.Entry.{Entry}

abbrev pub entries_in : Columns → List ℕ → List Entry
entries_in c os = map (λ n. entry_in c n) os

abbrev pub number_at : List ℕ → ℕ → ℕ
number_at os k = get_or os k 0

-- each is less than those behind it
abbrev pub IsOrdered : Columns → List ℕ → Type 0
IsOrdered c os =
    (i j : ℕ) → i < j → j < length os → rank (entry_in c (number_at os i)) < rank (entry_in c (number_at os j))

-- those before this place are of a lesser rank
pub record AreBefore (c : Columns) (os : List ℕ) (n p : ℕ) : Type 0 where
  pub less : (k : ℕ) → k < p → rank (entry_in c (number_at os k)) < n

-- those of a rank begin from one place on, and not behind another
pub record BeginBetween (c : Columns) (os : List ℕ) (n from end : ℕ) : Type 0 where
  pub order : from ≤ end
  pub within : end ≤ length os
  pub less : (k : ℕ) → k < from → rank (entry_in c (number_at os k)) < n
  pub more : (k : ℕ) → end ≤ k → k < length os → n ≤ rank (entry_in c (number_at os k))

-- it is the number of one of them
pub record IsAmong (os : List ℕ) (n : ℕ) : Type 0 where
  pub place : ℕ
  pub within : place < length os
  pub is : number_at os place ≡ n

-- and none is free, and no others are taken
pub record IsIndex (c : Columns) (os : List ℕ) : Type 0 where
  pub as_many : AreAsMany c
  pub ordered : IsOrdered c os
  pub taken : (k : ℕ) → k < length os → is_free c (number_at os k) ≡ false
  pub listed : (n : ℕ) → n / 2 < length c.majors.items → is_free c n ≡ false → IsAmong os n
  pub inside : (k : ℕ) → k < length os → number_at os k < 2 * length c.majors.items
  pub counted : length os + how_many (λ n. is_free c n) (2 * length c.majors.items) ≡ 2 * length c.majors.items
