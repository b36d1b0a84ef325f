-- What a receive buffer has: the bytes that came in order and were not read, and those that came ahead of a gap.
use Rattle.std.specs.Prelude.{ℕ, zero, suc, ◌≡◌, ◌+◌, ◌-◌, ◌<◌, ◌≤◌, ◌%◌, ◌^◌, ◌==◌, nat_eq, nat_le, nat_lt}
use Rattle.std.specs.Prelude.{List, [], ◌∷◌, ◌++◌, length, map, take, drop, replicate, slice_get, Option, Some, None}
use Rattle.std.specs.Prelude.{Bool, true, false, not, ◌&&◌, ◌||◌, if◌then◌else◌}
use Rattle.net_base.specs.declared.assembler.Range.{Range}
use Rattle.net_base.specs.Ranges.{is_held, is_within, insert_range}
use Rattle.sock_core.specs.Places.{number_distance, number_is_before}
use Rattle.net_base.specs.Ring.{Ring, overwrite, in_one_piece, end_after}

pub record Received : Type 0 where
  pub bytes : List ℕ  -- the receive queue: what came in order and was not handed out
  pub held : List (Option ℕ)  -- the places behind it, as many as the window: the byte that came out of order, or None
  pub until_end : ℕ  -- how many places there are from the queue's first byte to the end of the storage

abbrev pub received : List ℕ → List (Option ℕ) → ℕ → Received
received bs hs e = record { bytes = bs; held = hs; until_end = e }

-- a ring's queue, with nothing held behind it
abbrev pub receiving : Ring ℕ → Received
receiving r = received r.queue (replicate (length r.spare) None) r.until_end

-- how many bytes the queue holds when the buffer is full
abbrev pub room_of : Received → ℕ
room_of b = length b.bytes + length b.held

-- ---- what is held

-- the byte held at the offset k from the queue's end
abbrev pub byte_at : List (Option ℕ) → ℕ → Option ℕ
byte_at [] k = None
byte_at (h ∷ hs) zero = h
byte_at (h ∷ hs) (suc k) = byte_at hs k

abbrev pub holds_nothing : List (Option ℕ) → Bool
holds_nothing [] = true
holds_nothing (None ∷ hs) = holds_nothing hs
holds_nothing (Some b ∷ hs) = false

-- the longest run of held bytes from offset 0 on
abbrev pub run_of : List (Option ℕ) → List ℕ
run_of [] = []
run_of (None ∷ hs) = []
run_of (Some b ∷ hs) = b ∷ run_of hs

-- what stands behind that run
abbrev pub behind_run : List (Option ℕ) → List (Option ℕ)
behind_run [] = []
behind_run (None ∷ hs) = None ∷ hs
behind_run (Some b ∷ hs) = behind_run hs

-- the ranges of held offsets, in order and apart, the first place's offset being k
abbrev pub ranges_from : ℕ → List (Option ℕ) → List Range
ranges_from k [] = []
ranges_from k (None ∷ hs) = ranges_from (k + 1) hs
ranges_from k (Some b ∷ hs) = insert_range k (k + 1) (ranges_from (k + 1) hs)

abbrev pub ranges_of : List (Option ℕ) → List Range
ranges_of hs = ranges_from 0 hs

-- ys written over the places from the offset o on
abbrev pub written : List (Option ℕ) → ℕ → List ℕ → List (Option ℕ)
written hs o ys = overwrite hs o (map Some ys)

-- ---- what the calls do

-- bytes elsewhere than at offset 0 are refused where they would make a fifth range
unfoldable pub makes_fifth_range : Received → ℕ → List ℕ → Bool
makes_fifth_range b o ys = not (o == 0) && nat_lt 4 (length (ranges_of (written b.held o ys)))

-- the run from offset 0 joins the queue, and what is held behind it is counted from its end
abbrev pub gathered : Received → Received
gathered b = received (b.bytes ++ run_of b.held) (behind_run b.held) b.until_end

-- ys come at the offset o
unfoldable pub taken_in : Received → ℕ → List ℕ → Received
taken_in b o ys = if makes_fifth_range b o ys then b else gathered (received b.bytes (written b.held o ys) b.until_end)

-- the queue's first n bytes leave, and their places are free at the window's end
unfoldable pub handed_out : Received → ℕ → Received
handed_out b n = received (drop n b.bytes) (b.held ++ replicate n None) (end_after b.until_end n (room_of b))

-- no byte is queued and none is held, and the queue begins at the storage's first place
unfoldable pub cleared : Received → Received
cleared b = received [] (replicate (room_of b) None) (room_of b)

-- ---- how a buffer keeps it: a ring of places, and the ranges of its spare places that are held

abbrev pub shown_from : ℕ → List Range → List ℕ → List (Option ℕ)
shown_from k rs [] = []
shown_from k rs (b ∷ bs) = (if is_held rs k then Some b else None) ∷ shown_from (k + 1) rs bs

abbrev pub shown : List Range → List ℕ → List (Option ℕ)
shown rs spare = shown_from 0 rs spare

-- ---- what the bytes ys that come at the offset o do

-- what is held at the offset k once they are written
abbrev pub merged : List (Option ℕ) → ℕ → List ℕ → ℕ → Option ℕ
merged hs o ys k = if is_within o (o + length ys) k then slice_get ys (k - o) else byte_at hs k

-- bytes that come within the window and are not refused
abbrev pub IsLetIn : Received → ℕ → List ℕ → Type 0
IsLetIn b o ys = (o + length ys ≤ length b.held) × (makes_fifth_range b o ys ≡ false)

-- The queue grows by a run, and no byte of it changes. The run has at each offset the byte that came there, else the
-- one that was held; it goes on to the first offset with neither; and what is held then is what came or was held that
-- far behind it
pub record TakesIn (old new : Received) (o : ℕ) (ys : List ℕ) : Type 0 where
  pub run : List ℕ
  pub queue : new.bytes ≡ old.bytes ++ run
  pub joined : (k : ℕ) → k < length run → slice_get run k ≡ merged old.held o ys k
  pub stops : merged old.held o ys (length run) ≡ None
  pub held : (k : ℕ) → byte_at new.held k ≡ merged old.held o ys (length run + k)
  pub room : room_of new ≡ room_of old

-- Bytes in order join at once, and behind them what was held there
pub record JoinsAtOnce (old new : Received) (ys : List ℕ) : Type 0 where
  pub then_held : List ℕ
  pub queue : new.bytes ≡ old.bytes ++ (ys ++ then_held)
  pub were_held : (k : ℕ) → k < length then_held → slice_get then_held k ≡ byte_at old.held (length ys + k)
  pub stops : byte_at old.held (length ys + length then_held) ≡ None

-- ---- what readers see

-- how many bytes of the queue stand in one piece from its first on
abbrev pub first_piece : Received → ℕ
first_piece b = in_one_piece b.until_end (length b.bytes) 0

-- a call that was lent these, and handed out bytes of them
pub record DequeuesBytesWith {R : Type 0}
    (called : List ℕ → ℕ × R → Type 0) (old : Received) (result : ℕ × R) (new : Received) : Type 0 where
  pub met : called (take (first_piece old) old.bytes) result
  pub size_within : result.0 ≤ first_piece old
  pub after : new ≡ handed_out old result.0

-- the range, its first offset and the offset behind its last, begins at or before d and ends at or behind it
abbrev pub lies_around : ℕ × ℕ → ℕ → Bool
lies_around r d = nat_le r.0 d && nat_le d r.1

-- the first such range
abbrev pub range_around : List (ℕ × ℕ) → ℕ → Option (ℕ × ℕ)
range_around [] d = None
range_around (r ∷ rs) d = if lies_around r d then Some r else range_around rs d

-- ---- a range in wire numbers, with RCV.NXT at the queue's end

abbrev pub wire : ℕ → ℕ → ℕ
wire nxt offset = (nxt + offset) % 2 ^ 32

-- the range begins not after a number, and ends not before it
abbrev pub reaches_number : ℕ → ℕ → ℕ → ℕ → Bool
reaches_number nxt lo hi number =
    (number_is_before (wire nxt lo) number || nat_eq (wire nxt lo) number)
    && not (number_is_before (wire nxt hi) number)

abbrev pub IsWireRange : ℕ → ℕ → ℕ → ℕ → Type 0
IsWireRange nxt number lo hi = (nxt < 2 ^ 32) × (number < 2 ^ 32) × (lo < hi) × (hi ≤ 2 ^ 30)

abbrev pub ReachesAsOffsets : ℕ → ℕ → ℕ → ℕ → Type 0
ReachesAsOffsets nxt number lo hi = reaches_number nxt lo hi number ≡ lies_around (lo, hi) (number_distance number nxt)
