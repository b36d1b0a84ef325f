-- What the datagram sockets share: queues of packets, each with metadata.
use Rattle.std.specs.Prelude.{ℕ, ◌≡◌, List, [], ◌∷◌, ◌++◌, length, nat_lt, Bool, not, ◌==◌, Option, None, Some}
use Rattle.std.specs.Prelude.{Result, Ok, Err, if◌then◌else◌}
use Rattle.std.specs.Borrow.{Bor}
use Rattle.net_base.specs.Ring.{overwrite}
use Rattle.net_base.specs.Packets.{Packets, Dequeues, packets_with, end_of, made_room, takes}
use Rattle.sock_core.specs.declared.context.PollAt.{PollAt}
use Rattle.sock_core.specs.declared.context.PollAt.TheVariants as poll_at
use Rattle.sock_dgram.specs.declared.error.RecvError.{RecvError}
use Rattle.sock_dgram.specs.declared.error.RecvError.TheVariants as recv_error
use Rattle.sock_dgram.specs.declared.error.SendError.{SendError}
use Rattle.sock_dgram.specs.declared.error.SendError.TheVariants as send_error

-- whether a call is refused, and why
abbrev pub answered : {X E : Type 0} → Result X E → Result (Unit {0}) E
answered (Ok x) = Ok tt
answered (Err e) = Err e

module _ {M : Type 0} where
  -- ---- what is asked of a buffer

  -- whether a place is free, and whether one is taken; padding takes one
  abbrev pub has_place : Packets M → Bool
  has_place p = not (length p.entries == p.places)

  abbrev pub has_entry : Packets M → Bool
  has_entry p = not (length p.entries == 0)

  -- when a socket with this transmit buffer wants its next dispatch
  abbrev pub poll_moment : Packets M → PollAt
  poll_moment p = if length p.entries == 0 then poll_at.Ingress else poll_at.Now

  abbrev pub emptied : Packets M → Packets M
  emptied p = packets_with [] p.places p.storage 0

  -- ---- adding a packet

  -- behind the others; where it does not fit, the buffer has the same packets as before
  abbrev pub put : M → List ℕ → Packets M → Packets M
  put m bs p = packets_with (p.entries ++ (Some m, bs) ∷ []) p.places (overwrite p.storage (end_of p) bs) p.start

  abbrev pub stored : M → List ℕ → Packets M → Packets M
  stored m bs p = if takes (length bs) p then put m bs (made_room (length bs) p) else made_room (length bs) p

  -- the same of n bytes
  abbrev pub stored_as : ℕ → M → List ℕ → Packets M → Packets M
  stored_as n m bs p = if takes n p then put m bs (made_room n p) else made_room n p

  -- ---- reading the first packet

  abbrev pub take_answer : Option (M × List ℕ) → Result (Unit {0}) RecvError
  take_answer None = Err recv_error.Exhausted
  take_answer (Some d) = Ok tt

  -- an answer that lends the metadata, by value
  abbrev pub copied_of : Result (ℕ × Bor M) RecvError → Result (ℕ × M) RecvError
  copied_of (Ok r) = Ok (r.0, r.1.now)
  copied_of (Err e) = Err e

  -- a count, beside the one metadata that there is
  abbrev pub with_metadata : M → Result ℕ RecvError → Result (ℕ × M) RecvError
  with_metadata m (Ok n) = Ok (n, m)
  with_metadata m (Err e) = Err e

  -- the answer of a call that copies the first packet into a slice of n bytes
  abbrev pub copy_answer : Option (M × List ℕ) → ℕ → Result (ℕ × M) RecvError
  copy_answer None n = Err recv_error.Exhausted
  copy_answer (Some d) n = if nat_lt n (length d.1) then Err recv_error.Truncated else Ok (length d.1, d.0)

  -- what the slice then holds: a packet that does not fit leaves it as it was
  abbrev pub copied : Option (M × List ℕ) → List ℕ → List ℕ
  copied None bs = bs
  copied (Some d) bs = if nat_lt (length bs) (length d.1) then bs else overwrite bs 0 d.1

  -- the first packet left, if there was one, of the receive queue that is read by `rx`, and put into a socket by
  -- `with_rx`
  pub record TakesBy {V : Type 0} (rx : V → Packets M) (with_rx : V → Packets M → V) (old new : V) : Type 0 where
    pub queue : Dequeues (rx old) (rx new)
    pub same : new ≡ with_rx old (rx new)

  -- ---- sending n bytes or these bytes, where `sendable` says whether the addresses allow it: they come first, then
  -- the room. The transmit buffer of a socket is read by `tx`, and put into it by `with_tx`

  abbrev pub send_answer_if : Bool → ℕ → Packets M → Result (Unit {0}) SendError
  send_answer_if sendable n p =
      if sendable then (if takes n p then Ok tt else Err send_error.BufferFull) else Err send_error.Unaddressable

  module _ {V : Type 0} (tx : V → Packets M) (with_tx : V → Packets M → V) where
    abbrev pub after_send_if : Bool → M → List ℕ → V → V
    after_send_if sendable m bs v = if sendable then with_tx v (stored m bs (tx v)) else v

    -- where it is refused for want of room, padding may have come to stand behind the packets
    abbrev pub refused_send_if : Bool → ℕ → V → V
    refused_send_if sendable n v = if sendable then with_tx v (made_room n (tx v)) else v
