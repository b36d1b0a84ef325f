-- What a contract sees of a ring: the queue, the spare places behind it, counted from the queue's end, and how far it
-- is from the queue's first place to the end of the storage, around which the places go on.
use Rattle.std.specs.Prelude.{ℕ, ◌+◌, ◌-◌, ◌≡◌, ◌≤◌, ◌==◌, nat_lt, min, List, [], ◌++◌, length, take, drop, refl}
use Rattle.std.specs.Prelude.{if◌then◌else◌}
use Rattle.std.specs.Coded.{Coded, code_by, coded×, coded_list, coded_ℕ}

-- the items of the queue, oldest first; what stands in the places behind its end; and how many places there are from
-- the queue's first one to the end of the storage
pub record Ring (X : Type 0) : Type 0 where
  pub queue : List X
  pub spare : List X
  pub until_end : ℕ

-- ---- the end of the storage, which is e places from the queue's first place

-- how many of the first n places stand in one piece from the offset o on: those up to the end, or all where o is
-- behind it
unfoldable pub in_one_piece : ℕ → ℕ → ℕ → ℕ
in_one_piece e n o = (if nat_lt o e then min n e else n) - o

-- how far it is from the place c places on, of m places
unfoldable pub end_after : ℕ → ℕ → ℕ → ℕ
end_after e c m = if nat_lt c e then e - c else e + m - c

-- how far it is for a call that appends, to a queue of n items with m spare places: an empty queue begins anew at the
-- storage's first place
unfoldable pub end_anew : ℕ → ℕ → ℕ → ℕ
end_anew e n m = if n == 0 then m else e

module _ {X : Type 0} where
  abbrev pub ring : List X → List X → ℕ → Ring X
  ring q s e = record { queue = q; spare = s; until_end = e }

  abbrev pub ring_code : Coded X → Coded (Ring X)
  ring_code c =
      code_by (List X × (List X × ℕ)) (coded× (coded_list c) (coded× (coded_list c) coded_ℕ))
      (λ r. (r.queue, (r.spare, r.until_end))) (λ p. ring p.0 p.1.0 p.1.1) (λ _. refl)

  -- how many items the ring has places for
  abbrev pub capacity_of : Ring X → ℕ
  capacity_of r = length r.queue + length r.spare

  -- xs with ys written over the part that begins at o
  abbrev pub overwrite : List X → ℕ → List X → List X
  overwrite xs o ys = take o xs ++ (ys ++ drop (o + length ys) xs)

  -- the places from k on, around the end
  abbrev pub cells_from : ℕ → List X → List X
  cells_from k xs = drop k xs ++ take k xs

  -- the first n places from k on are the queue, the others are spare
  abbrev pub ring_of : ℕ → ℕ → List X → Ring X
  ring_of k n xs = ring (take n (cells_from k xs)) (drop n (cells_from k xs)) (length xs - k)

  -- an empty queue in these places, which begins at the first
  abbrev pub empty_ring : List X → Ring X
  empty_ring xs = ring [] xs (length xs)

  -- ---- what is lent

  -- how many items of the queue stand in one piece from the offset o on
  abbrev pub queue_piece : Ring X → ℕ → ℕ
  queue_piece r o = in_one_piece r.until_end (length r.queue) o

  -- how many spare places stand in one piece behind the queue, for a call that appends
  abbrev pub spare_piece : Ring X → ℕ
  spare_piece r =
      in_one_piece (end_anew r.until_end (length r.queue) (length r.spare)) (capacity_of r) (length r.queue)

  -- ---- what the calls do

  -- the spare places as a call that appends finds them: those of an empty queue in the storage's order
  unfoldable pub spare_anew : ℕ → List X → List X → List X
  spare_anew e q s = if length q == 0 then cells_from e s else s

  -- the ring as such a call finds it
  abbrev pub restarted : Ring X → Ring X
  restarted r =
      ring r.queue (spare_anew r.until_end r.queue r.spare)
      (end_anew r.until_end (length r.queue) (length r.spare))

  -- the items ys behind the queue, over the first of the spare places
  abbrev pub appended : Ring X → List X → Ring X
  appended r ys = ring (r.queue ++ ys) (drop (length ys) r.spare) r.until_end

  -- the queue without its first c items, whose places come behind the spare ones
  abbrev pub shortened : Ring X → ℕ → Ring X
  shortened r c =
      ring (drop c r.queue) (r.spare ++ take c r.queue) (end_after r.until_end c (capacity_of r))

  -- an empty queue, which begins at the storage's first place
  abbrev pub emptied : Ring X → Ring X
  emptied r = ring [] (cells_from r.until_end (r.queue ++ r.spare)) (capacity_of r)

-- a call that was lent the queue as far as it stands in one piece, and took size items of it
pub record DequeuesWith {X R : Type 0} (called : List X → ℕ × R → Type 0) (old : Ring X) (result : ℕ × R)
    (new : Ring X) : Type 0 where
  pub met : called (take (queue_piece old 0) old.queue) result
  pub size_within : result.0 ≤ queue_piece old 0
  pub after : new ≡ shortened old result.0

-- a call that was lent the spare places as far as they stand in one piece, left `left` there, and of these the first
-- size joined the queue
pub record EnqueuesWith {X R : Type 0} (called : List X → ℕ × R → List X → Type 0) (old : Ring X) (result : ℕ × R)
    (new : Ring X) : Type 0 where
  pub left : List X
  pub left_length : length left ≡ spare_piece old
  pub met : called (take (spare_piece old) (restarted old).spare) result left
  pub size_within : result.0 ≤ spare_piece old
  pub after : new ≡ ring (old.queue ++ take result.0 left)
      (drop result.0 (overwrite (restarted old).spare 0 left)) (restarted old).until_end

-- a call that was lent count items from `from` on left others there, and nothing else changed
pub record LeavesRun {X R : Type 0} (called : List X → R → List X → Type 0) (old : List X) (from count : ℕ)
    (result : R) (new : List X) : Type 0 where
  pub left : List X
  pub left_length : length left ≡ count
  pub met : called (take count (drop from old)) result left
  pub after : new ≡ overwrite old from left
