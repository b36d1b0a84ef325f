-- Bytes that are held behind a queue: ranges of offsets, and the spare places with their bytes.
use Rattle.std.specs.Prelude.{ℕ, ◌≡◌, ◌+◌, ◌-◌, ◌≤◌, ◌<◌, true, List, length, take, slice_get, Option, None}
use Rattle.std.specs.Prelude.{if◌then◌else◌}
use Rattle.net_base.specs.declared.assembler.Range.{Range}
use Rattle.net_base.specs.Ranges.{is_within, is_held, IsTidy}
use Rattle.net_base.specs.Ring.{overwrite}

module _ {X : Type 0} where
  -- what is held at the offset k from the queue's end
  abbrev pub held_at : List Range → List X → ℕ → Option X
  held_at rs spare k = if is_held rs k then slice_get spare k else None

  -- the same, once ys was written at the offset o
  abbrev pub replaced : (ℕ → Option X) → ℕ → List X → ℕ → Option X
  replaced held o ys k = if is_within o (o + length ys) k then slice_get ys (k - o) else held k

-- the ranges are tidy, and lie in the m spare places
pub record IsKept (rs : List Range) (m : ℕ) : Type 0 where
  pub tidy : IsTidy rs
  pub within : (k : ℕ) → is_held rs k ≡ true → k < m

-- The bytes ys came at the offset o: they replace what was held there, the run from offset 0 joins the queue, and what
-- stays held is counted from its end
pub record Joins {X : Type 0} (rs : List Range) (spare : List X) (o : ℕ) (ys : List X) (run : ℕ) (rest : List Range)
    (left : List X) : Type 0 where
  pub fits : run ≤ length spare
  pub kept : IsKept rest (length left)
  pub joined : (k : ℕ) → k < run → slice_get (take run (overwrite spare o ys)) k ≡ replaced (held_at rs spare) o ys k
  pub stops : replaced (held_at rs spare) o ys run ≡ None
  pub others : (k : ℕ) → held_at rest left k ≡ replaced (held_at rs spare) o ys (run + k)
