-- A set of offsets counted from a place that moves, as ranges that are kept as places modulo 2^32.
use Rattle.std.specs.Prelude.{ℕ, ◌≡◌, ◌+◌, ◌-◌, ◌≤◌, ◌%◌, ◌^◌, if◌then◌else◌}
use Rattle.std.specs.Prelude.{List, [], ◌∷◌, length, take, drop, Option, Some, None, Result, Ok, Err}
use Rattle.sock_core.specs.declared.ranges.Places.{Places}
use Rattle.sock_core.specs.declared.ranges.TooManyRanges.{TooManyRanges}
use Rattle.net_base.specs.declared.assembler.Range.{Range}
use Rattle.net_base.specs.Ranges.{range, Apart, insert_range, is_refused, run_after, ranges_after}

-- the place of the next byte to be taken, and the ranges held behind it, as offsets from there
pub record HeldRanges : Type 0 where
  pub front : ℕ
  pub ranges : List Range

-- how far a place stands behind the front, around the end of 32 bits
abbrev pub offset_of : ℕ → ℕ → ℕ
offset_of front place = (place + (2 ^ 32 - front)) % 2 ^ 32

-- the place so far behind the front
abbrev pub place_at : ℕ → ℕ → ℕ
place_at front offset = (front + offset) % 2 ^ 32

abbrev pub offsets : ℕ → List Places → List Range
offsets front [] = []
offsets front (p ∷ ps) = range (offset_of front p.start) (offset_of front p.end) ∷ offsets front ps

-- each range ends at the offset 2^30 or before it
abbrev pub AllNear : List Range → Type 0
AllNear [] = Unit {0}
AllNear (r ∷ rs) = (r.end ≤ 2 ^ 30) × AllNear rs

-- a run of n offsets from 0 on, with those of the ranges that it reaches, is a run of `run` offsets; the rest stays
abbrev pub JoinsRun : ℕ → List Range → ℕ → List Range → Type 0
JoinsRun n rs run rest = insert_range 0 n rs ≡ range 0 run ∷ rest

-- ---- the table: the ranges stand from `first` on, before `end`

abbrev pub table_offsets : ℕ → ℕ → ℕ → List Places → List Range
table_offsets front first end places = offsets front (take (end - first) (drop first places))

abbrev pub IsTable : ℕ → ℕ → ℕ → List Places → Type 0
IsTable front first end places =
    (length places ≡ 4) × (first ≤ end) × (end ≤ 4)
    × Apart 1 (table_offsets front first end places) × AllNear (table_offsets front first end places)

-- ---- what an addition does, as to the assembler's set

-- the run from offset 0 leaves, and the front moves to its end
abbrev pub run_removed : ℕ → ℕ → HeldRanges → HeldRanges
run_removed o n h = record { front = place_at h.front (run_after o n h.ranges); ranges = ranges_after o n h.ranges }

abbrev pub added : ℕ → ℕ → HeldRanges → HeldRanges
added o n h = if is_refused o n h.ranges then h else run_removed o n h

-- refused, or the run
abbrev pub refused_or : ℕ → ℕ → List Range → ℕ → Result ℕ TooManyRanges
refused_or o n rs run = if is_refused o n rs then Err (record {}) else Ok run

-- ---- the same list of additions, each an offset and a length, on the table and on the assembler

-- the run that an addition takes out, or none where it is refused
abbrev pub answered : ℕ → ℕ → List Range → Option ℕ
answered o n rs = if is_refused o n rs then None else Some (run_after o n rs)

abbrev pub held_after : ℕ → ℕ → List Range → List Range
held_after o n rs = if is_refused o n rs then rs else ranges_after o n rs

abbrev pub table_answers : List (ℕ × ℕ) → HeldRanges → List (Option ℕ)
table_answers [] h = []
table_answers (c ∷ cs) h = answered c.0 c.1 h.ranges ∷ table_answers cs (added c.0 c.1 h)

abbrev pub table_after : List (ℕ × ℕ) → HeldRanges → HeldRanges
table_after [] h = h
table_after (c ∷ cs) h = table_after cs (added c.0 c.1 h)

abbrev pub assembler_answers : List (ℕ × ℕ) → List Range → List (Option ℕ)
assembler_answers [] rs = []
assembler_answers (c ∷ cs) rs = answered c.0 c.1 rs ∷ assembler_answers cs (held_after c.0 c.1 rs)

abbrev pub assembler_after : List (ℕ × ℕ) → List Range → List Range
assembler_after [] rs = rs
assembler_after (c ∷ cs) rs = assembler_after cs (held_after c.0 c.1 rs)

-- how many offsets the answers took out together
abbrev pub taken : List (Option ℕ) → ℕ
taken [] = 0
taken (None ∷ rest) = taken rest
taken (Some n ∷ rest) = n + taken rest

-- the answers and the ranges are the same, and the front has moved by all that was taken out
pub record Agree (calls : List (ℕ × ℕ)) (h : HeldRanges) : Type 0 where
  pub answers : table_answers calls h ≡ assembler_answers calls h.ranges
  pub ranges : (table_after calls h).ranges ≡ assembler_after calls h.ranges
  pub front : (table_after calls h).front % 2 ^ 32 ≡ place_at h.front (taken (table_answers calls h))
