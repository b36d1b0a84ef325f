-- Lower bounds of the moments at which places want to be asked.
use Rattle.std.specs.Prelude.{ℕ, ℤ, negsuc, pos, ◌≡◌, ◌/◌, ◌<◌, ◌≤◌, ◌≤ℤ◌, ◌<ℤ◌, nat_eq, false, List, length, get_or}
use Rattle.std.specs.Prelude.{Option, Some, None, if◌then◌else◌}

-- now, whatever the moment
abbrev pub at_once : ℤ
at_once = negsuc 9223372036854775807

-- the bound of a place; a place that is not there has the least
abbrev pub bound_at : List ℤ → ℕ → ℤ
bound_at bs k = get_or bs k at_once

-- ---- what is found

-- the first place from one on, and before another, whose bound is not after now
pub record IsReachedFirst (bs : List ℤ) (start end : ℕ) (now : ℤ) (i : ℕ) : Type 0 where
  pub behind : start ≤ i
  pub within : i < end
  pub reached : bound_at bs i ≤ℤ now
  pub before : (k : ℕ) → start ≤ k → k < i → now <ℤ bound_at bs k

abbrev pub FindsReached : List ℤ → (start end : ℕ) → ℤ → Option ℕ → Type 0
FindsReached bs start end now None = (k : ℕ) → start ≤ k → k < end → now <ℤ bound_at bs k
FindsReached bs start end now (Some i) = IsReachedFirst bs start end now i

-- no bound is less
abbrev pub IsBelowAll : ℤ → List ℤ → Type 0
IsBelowAll m bs = (k : ℕ) → k < length bs → m ≤ℤ bound_at bs k

-- the same of some places
abbrev pub IsBelow : ℤ → List ℤ → (start end : ℕ) → Type 0
IsBelow m bs start end = (k : ℕ) → start ≤ k → k < end → m ≤ℤ bound_at bs k

-- the latest moment, which stands for never
abbrev pub latest : ℤ
latest = pos 9223372036854775807

-- no moment that is later is below all
abbrev pub IsGreatest : ℤ → List ℤ → Type 0
IsGreatest m bs = (n : ℤ) → n ≤ℤ latest → IsBelowAll n bs → n ≤ℤ m

-- the same of some places
abbrev pub IsGreatestOf : ℤ → List ℤ → (start end : ℕ) → Type 0
IsGreatestOf m bs start end = (n : ℤ) → n ≤ℤ latest → IsBelow n bs start end → n ≤ℤ m

-- the first of so many moments, all the least
abbrev pub first_top : ℕ → ℤ
first_top count = if nat_eq count 0 then latest else at_once

-- ---- levels: 16 bounds of one have one of the next, which none of them is less than

abbrev pub Reaches : List ℤ → List ℤ → Type 0
Reaches low high = (k : ℕ) → k < length low → k / 16 < length high

abbrev pub Covers : List ℤ → List ℤ → Type 0
Covers low high = (k : ℕ) → k < length low → bound_at high (k / 16) ≤ℤ bound_at low k

-- but for this place
abbrev pub CoversBut : ℕ → List ℤ → List ℤ → Type 0
CoversBut place low high =
    (k : ℕ) → k < length low → nat_eq k place ≡ false → bound_at high (k / 16) ≤ℤ bound_at low k

-- a moment is below the places that have this one above them
abbrev pub IsBelowIn : ℤ → List ℤ → ℕ → Type 0
IsBelowIn n low j = (k : ℕ) → k < length low → k / 16 ≡ j → n ≤ℤ bound_at low k

-- none that is later than the one above them is
abbrev pub Nears : List ℤ → List ℤ → Type 0
Nears low high = (j : ℕ) → j < length high → (n : ℤ) → n ≤ℤ latest → IsBelowIn n low j → n ≤ℤ bound_at high j

-- where this place had this bound
abbrev pub IsBelowInBut : ℕ → ℤ → ℤ → List ℤ → ℕ → Type 0
IsBelowInBut place was n low j =
    (k : ℕ) → k < length low → k / 16 ≡ j → n ≤ℤ (if nat_eq k place then was else bound_at low k)

abbrev pub NearsBut : ℕ → ℤ → List ℤ → List ℤ → Type 0
NearsBut place was low high =
    (j : ℕ) → j < length high → (n : ℤ) → n ≤ℤ latest → IsBelowInBut place was n low j → n ≤ℤ bound_at high j

pub record KeepsBut (i : ℕ) (bs cs : List ℤ) : Type 0 where
  pub len : length cs ≡ length bs
  pub others : (k : ℕ) → nat_eq k i ≡ false → bound_at cs k ≡ bound_at bs k

pub record IsLayered (places blocks groups : List ℤ) : Type 0 where
  pub blocks_reach : Reaches places blocks
  pub groups_reach : Reaches blocks groups
  pub blocks_cover : Covers places blocks
  pub groups_cover : Covers blocks groups
  pub blocks_near : Nears places blocks
  pub groups_near : Nears blocks groups

-- and what is below all groups
pub record IsTopped (least : ℤ) (places blocks groups : List ℤ) : Type 0 where
  pub layers : IsLayered places blocks groups
  pub below : IsBelowAll least groups
  pub greatest : IsGreatest least groups
