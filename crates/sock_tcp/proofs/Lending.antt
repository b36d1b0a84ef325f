-- How much of the queues is lent.
use Rattle.std.proofs.Common.{◌≡◌, ℕ, ◌-◌, ◌≤◌, List, length, take, drop, min, sym, ap, ◌∙◌, arith, length-take, length-drop}
use Rattle.net_base.specs.Ring.{in_one_piece}
use Rattle.net_base.proofs.Cells.{piece_within, piece_none}
use Rattle.sock_core.specs.Received.{Received, first_piece}
use Rattle.sock_tcp.specs.Queue.{Queue, capacity, appending_end, free_piece, IsLent}

-- ---- bytes of the transmit queue

lent_length : (q : Queue) (o n : ℕ) (bs : List ℕ) → IsLent q o n bs → length bs ≡ min n (in_one_piece q.until_end (length q.bytes) o)
lent_length q o n bs lent =
    let m = min n (in_one_piece q.until_end (length q.bytes) o) in
    let few = piece_within q.until_end (length q.bytes) o in
    ap (λ (l : List ℕ). length l) lent ∙ length-take m (drop o q.bytes) ∙ omega (arith, few, length-drop o q.bytes)

pub lent_at_most : (q : Queue) (o n : ℕ) (bs : List ℕ) → IsLent q o n bs → length bs ≤ min n (length q.bytes - o)
lent_at_most q o n bs lent = omega (arith, lent_length q o n bs lent, piece_within q.until_end (length q.bytes) o)

pub lent_beginning : (q : Queue) (o n : ℕ) (bs : List ℕ) → IsLent q o n bs → bs ≡ take (length bs) (drop o q.bytes)
lent_beginning q o n bs lent = lent ∙ ap (λ m. take m (drop o q.bytes)) (sym (lent_length q o n bs lent))

-- ---- places behind it

pub free_within : (q : Queue) → free_piece q ≤ q.window
free_within q = omega (arith, piece_within (appending_end q) (capacity q) (length q.bytes))

pub free_none : (q : Queue) → free_piece q ≡ 0 → q.window ≡ 0
free_none q none = omega (arith, piece_none (appending_end q) (capacity q) (length q.bytes) none)

-- ---- bytes of the receive queue

pub first_within : (b : Received) → first_piece b ≤ length b.bytes
first_within b = omega (arith, piece_within b.until_end (length b.bytes) 0)

pub first_none : (b : Received) → first_piece b ≡ 0 → length b.bytes ≡ 0
first_none b none = omega (arith, piece_none b.until_end (length b.bytes) 0 none)
