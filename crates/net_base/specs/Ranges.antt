-- Sets of offsets, as ranges in order with a gap between each two.
use Rattle.std.specs.Prelude.{ℕ, ◌≡◌, ◌+◌, ◌-◌, ◌≤◌, ◌<◌, Bool, true, false, ◌&&◌, ◌||◌, ◌==◌, nat_le, nat_lt, cond}
use Rattle.std.specs.Prelude.{min, max, List, [], ◌∷◌, length, if◌then◌else◌}
use Rattle.net_base.specs.declared.assembler.Range.{Range}

abbrev pub range : ℕ → ℕ → Range
range lo hi = record { start = lo; end = hi }

abbrev pub is_within : ℕ → ℕ → ℕ → Bool
is_within lo hi x = nat_le lo x && nat_lt x hi

-- whether the offset x is in one of the ranges
abbrev pub is_held : List Range → ℕ → Bool
is_held [] x = false
is_held (r ∷ rs) x = is_within r.start r.end x || is_held rs x

-- the ranges begin at b or later, none is empty, and each two have a gap between them
abbrev pub Apart : ℕ → List Range → Type 0
Apart b [] = Unit {0}
Apart b (r ∷ rs) = (b ≤ r.start) × (r.start < r.end) × Apart (r.end + 1) rs

-- the ranges with lo to hi added, joined with those that it touches
abbrev pub insert_range : ℕ → ℕ → List Range → List Range
insert_range lo hi [] = range lo hi ∷ []
insert_range lo hi (r ∷ rs) = cond (nat_lt r.end lo) (r ∷ insert_range lo hi rs)
    (cond (nat_lt hi r.start) (range lo hi ∷ (r ∷ rs)) (insert_range (min lo r.start) (max hi r.end) rs))

-- the first offset of each range, and the offset behind its last
abbrev pub edges : List Range → List (ℕ × ℕ)
edges [] = []
edges (r ∷ rs) = (r.start, r.end) ∷ edges rs

-- ---- what an addition does

-- the offset at which the first range ends
abbrev pub front_end : List Range → ℕ
front_end [] = 0
front_end (r ∷ rs) = r.end

abbrev pub behind_front : List Range → List Range
behind_front [] = []
behind_front (r ∷ rs) = rs

abbrev pub lowered : ℕ → List Range → List Range
lowered c [] = []
lowered c (r ∷ rs) = range (r.start - c) (r.end - c) ∷ lowered c rs

-- an addition at 0 makes a run from 0, which leaves; elsewhere there is none
abbrev pub run_after : ℕ → ℕ → List Range → ℕ
run_after o n rs = if o == 0 then front_end (insert_range o (o + n) rs) else 0

abbrev pub ranges_after : ℕ → ℕ → List Range → List Range
ranges_after o n rs = if o == 0 then lowered (front_end (insert_range o (o + n) rs))
    (behind_front (insert_range o (o + n) rs)) else insert_range o (o + n) rs

-- an addition elsewhere than at 0 is refused where it would make a fifth range
abbrev pub is_refused : ℕ → ℕ → List Range → Bool
is_refused o n rs = if o == 0 then false else nat_lt 4 (length (insert_range o (o + n) rs))

-- at most four ranges, apart, none of which begins at 0
pub record IsTidy (rs : List Range) : Type 0 where
  pub apart : Apart 1 rs
  pub few : length rs ≤ 4

-- what an addition that isn't refused does to the set: the run leaves, and the other offsets are counted from its end
pub record Adds (o n : ℕ) (rs : List Range) (run : ℕ) (rest : List Range) : Type 0 where
  pub tidy : IsTidy rest
  pub joined : (k : ℕ) → k < run → (is_within o (o + n) k || is_held rs k) ≡ true
  pub stops : (is_within o (o + n) run || is_held rs run) ≡ false
  pub others : (k : ℕ) → is_held rest k ≡ (is_within o (o + n) (run + k) || is_held rs (run + k))
