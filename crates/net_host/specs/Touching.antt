-- What a packet leaves of the sockets that a program finds untouched.
use Rattle.std.specs.Prelude.{ℕ, ℤ, ◌≡◌, ◌<◌, ◌≤◌, ◌<ℤ◌, Bool, List, length, slice_get, slice_set, if◌then◌else◌}
use Rattle.host_bounds.specs.Bounding.{at_once, bound_at}
use Rattle.net_host.specs.declared.slot.Slot.{Slot}

-- the place is to be asked when it was to be asked before, and the socket there is as it was
pub record IsUntouched {G : Type 0} (bs : List ℤ) (ss : List (Slot G)) (cs : List ℤ) (ts : List (Slot G)) (k : ℕ)
    : Type 0 where
  pub bound : bound_at cs k ≡ bound_at bs k
  pub same : slice_get ts k ≡ slice_get ss k

-- so is each place that is not touched afterwards
abbrev pub Touches : {G : Type 0} → List ℤ → List (Slot G) → List ℤ → List (Slot G) → Type 0
Touches bs ss cs ts = (k : ℕ) → at_once <ℤ bound_at cs k → IsUntouched bs ss cs ts k

-- a place is touched where its socket took something
abbrev pub touched_if : Bool → ℕ → List ℤ → List ℤ
touched_if took i bs = if took then slice_set bs i at_once else bs

-- no place is touched
abbrev pub NoneIsMarked : List ℤ → Type 0
NoneIsMarked bs = (k : ℕ) → k < length bs → at_once <ℤ bound_at bs k

-- of the places from one on and before another none is marked afterwards, and the others keep their bounds
pub record UnmarksIn (start end : ℕ) (bs cs : List ℤ) : Type 0 where
  pub len : length cs ≡ length bs
  pub here : (k : ℕ) → start ≤ k → k < end → at_once <ℤ bound_at cs k
  pub before : (k : ℕ) → k < start → bound_at cs k ≡ bound_at bs k
  pub behind : (k : ℕ) → end ≤ k → bound_at cs k ≡ bound_at bs k
