-- Marks of places, as bits in words of 64.
use Rattle.std.specs.Prelude.{ℕ, ℤ, ◌≡◌, ◌+◌, ◌/◌, ◌%◌, ◌<◌, ◌≤◌, ◌≤ℤ◌, nat_eq, suc, Bool, true, false, List, [], ◌∷◌}
use Rattle.std.specs.Prelude.{Option, Some, None, length, get_or, if◌then◌else◌}
use Rattle.std.specs.Int.{bit_at}
use Rattle.std.specs.List.{All}
use Rattle.host_bounds.specs.Bounding.{at_once, bound_at}

abbrev pub bit_of : List ℕ → ℕ → ℕ
bit_of ws k = bit_at (get_or ws (k / 64) 0) (k % 64)

-- the bit of this place is a one, and the others are what they were
pub record Sets (place : ℕ) (ws us : List ℕ) : Type 0 where
  pub len : length us ≡ length ws
  pub here : bit_of us place ≡ 1
  pub others : (k : ℕ) → nat_eq k place ≡ false → bit_of us k ≡ bit_of ws k

-- the bit of this place is a zero, and the others are what they were
pub record Clears (place : ℕ) (ws us : List ℕ) : Type 0 where
  pub len : length us ≡ length ws
  pub here : bit_of us place ≡ 0
  pub others : (k : ℕ) → nat_eq k place ≡ false → bit_of us k ≡ bit_of ws k

abbrev pub IsFull : List ℕ → Type 0
IsFull ws = All (λ w. w ≡ 18446744073709551615) ws

abbrev pub IsEmpty : List ℕ → Type 0
IsEmpty ws = All (λ w. w ≡ 0) ws

-- each bit that there is is a one
abbrev pub AllMarked : List ℕ → Type 0
AllMarked ws = (k : ℕ) → k / 64 < length ws → bit_of ws k ≡ 1

-- each word with a one has a one among the words
abbrev pub IsBusy : List ℕ → List ℕ → Type 0
IsBusy marks words = (k : ℕ) → bit_of marks k ≡ 1 → bit_of words (k / 64) ≡ 1

pub record AreNoted (marks words : List ℕ) : Type 0 where
  pub few : length marks ≤ 288230376151711744
  pub reach : (k : ℕ) → k < length marks → k / 64 < length words
  pub busy : IsBusy marks words

-- ---- what is found

-- so many zeros of a word from this bit on are followed by a one
pub record IsNextOne (word bit zeros : ℕ) : Type 0 where
  pub within : bit + zeros < 64
  pub one : bit_at word (bit + zeros) ≡ 1
  pub before : (i : ℕ) → bit ≤ i → i < bit + zeros → bit_at word i ≡ 0

abbrev pub FindsOne : ℕ → ℕ → Option ℕ → Type 0
FindsOne word bit None = (i : ℕ) → bit ≤ i → bit_at word i ≡ 0
FindsOne word bit (Some zeros) = IsNextOne word bit zeros

-- the next place from one on that is marked, or one behind all
pub record IsNextMark (marks : List ℕ) (start next : ℕ) : Type 0 where
  pub behind : start ≤ next
  pub before : (k : ℕ) → start ≤ k → k < next → bit_of marks k ≡ 0
  pub marked : next < 18446744073709551615 → next / 64 < length marks → bit_of marks next ≡ 1

-- of so many places the first is marked and none before it, and where it is alone none behind it
pub record IsFirstMark (marks : List ℕ) (count first : ℕ) (alone : Bool) : Type 0 where
  pub marked : first < count → bit_of marks first ≡ 1
  pub before : (k : ℕ) → k < first → k < count → bit_of marks k ≡ 0
  pub behind : alone ≡ true → (k : ℕ) → first < k → k < count → bit_of marks k ≡ 0

-- ---- bounds: a place that is marked is to be asked at once, another one at its time

unfoldable pub merged : ℕ → List ℕ → List ℤ → List ℤ
merged i ws [] = []
merged i ws (t ∷ ts) = (if nat_eq (bit_of ws i) 1 then at_once else t) ∷ merged (suc i) ws ts

pub record AreBounds (marks : List ℕ) (times : List ℤ) : Type 0 where
  pub reach : (k : ℕ) → k < length times → k / 64 < length marks
  pub floor : (k : ℕ) → at_once ≤ℤ bound_at times k

pub record AreKept (marks : List ℕ) (times : List ℤ) (first : ℕ) (alone : Bool) : Type 0 where
  pub bounds : AreBounds marks times
  pub first_mark : IsFirstMark marks (length times) first alone
