-- The two byte queues of a socket.
use Rattle.std.specs.Prelude.{ℕ, ◌≡◌, ◌+◌, ◌-◌, List, [], ◌++◌, length, take, drop, min}
use Rattle.net_base.specs.Ring.{Ring, in_one_piece, end_after, end_anew}

-- the bytes of the queue, oldest first; how many more fit behind them; and how many places there are from the queue's
-- first byte to the end of the ring's storage
pub record Queue : Type 0 where
  pub bytes : List ℕ
  pub window : ℕ
  pub until_end : ℕ

abbrev pub queue_of : Ring ℕ → Queue
queue_of r = record { bytes = r.queue; window = length r.spare; until_end = r.until_end }

abbrev pub capacity : Queue → ℕ
capacity q = length q.bytes + q.window

-- no byte, and the next one goes to the storage's first place
abbrev pub emptied : Queue → Queue
emptied q = record { bytes = []; window = capacity q; until_end = capacity q }

-- how far the end of the storage is for a call that appends: an empty queue begins anew at the first place
abbrev pub appending_end : Queue → ℕ
appending_end q = end_anew q.until_end (length q.bytes) q.window

-- bs behind the queue, which has room for them
abbrev pub appended : Queue → List ℕ → Queue
appended q bs =
    record { bytes = q.bytes ++ bs; window = q.window - length bs; until_end = appending_end q }

-- the queue without its first n bytes
abbrev pub shortened : Queue → ℕ → Queue
shortened q n =
    record { bytes = drop n q.bytes; window = q.window + n; until_end = end_after q.until_end n (capacity q) }

-- ---- what the ring lends

-- how many free places stand in one piece behind the queue, for a call that appends
abbrev pub free_piece : Queue → ℕ
free_piece q = in_one_piece (appending_end q) (capacity q) (length q.bytes)

-- the queue from an offset on, as far as it stands in one piece, but at most so many bytes as were asked for
abbrev pub IsLent : Queue → ℕ → ℕ → List ℕ → Type 0
IsLent q offset asked given =
    given ≡ take (min asked (in_one_piece q.until_end (length q.bytes) offset)) (drop offset q.bytes)
