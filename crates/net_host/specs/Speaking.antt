-- Who speaks next.
use Rattle.std.specs.Prelude.{ℕ, ◌≡◌, ◌+◌, ◌<◌, List, true, Result, Ok, Err, slice_get}
use Rattle.sock_core.specs.Facts.{Facts}
use Rattle.sock_core.specs.declared.context.PollAt.{PollAt}
use Rattle.sock_core.specs.declared.context.PollAt.TheVariants as poll
use Rattle.sock_tcp.specs.Polls.{earlier}
use Rattle.sock_tcp.specs.View.{moment_of}
use Rattle.std.specs.List.{fold}
use Rattle.net_host.specs.Counts.{lost_by}
use Rattle.net_host.specs.Kinds.{is_tcp_at}
use Rattle.net_host.specs.Looking.{MayLook, Unseen}
use Rattle.net_host.specs.Turns.{TakesTurn, Watches, is_due, slot_poll}
use Rattle.net_host.specs.Walks.{Both, ChangesAt, ChangesEach, IsNext, Nowhere}
use Rattle.net_host.specs.declared.counters.Counters.{Counters}
use Rattle.net_host.specs.declared.guard.GuardSettings.{GuardSettings}
use Rattle.net_host.specs.declared.slot.Slot.{Slot}
use Rattle.net_host.specs.declared.wire.Sent.{Sent}
use Rattle.net_host.specs.declared.wire.TooShort.{TooShort}

abbrev pub Due : {G : Type 0} → Facts → Slot G → Type 0
Due facts s = is_due facts s ≡ true

-- when the first of the sockets wants to speak
abbrev pub earliest : {G : Type 0} → Facts → List (Slot G) → PollAt
earliest facts ss = fold (λ p s. earlier p (slot_poll s facts)) poll.Ingress ss

module _ {G : Type 0} (facts : Facts) (tells : G → ℕ → Type 0) where
  -- the slot at i has its turn, and no other changes
  abbrev pub TurnAt : List (Slot G) → ℕ → List ℕ → Result (Unit {0}) TooShort → Sent → List (Slot G) → List ℕ → Type 0
  TurnAt ss i out r n ts out' = ChangesAt (λ before after. TakesTurn facts tells before out r n after out') ss i ts

module _ {G : Type 0} (facts : Facts) (st : GuardSettings) where
  -- Guards look at some of the sockets. Then the socket at i is due, its own guard has looked at it, and it is the
  -- first such from the place whose turn it is.
  pub record Readies (ss : List (Slot G)) (turn i : ℕ) (seen : List (Slot G)) : Type 0 where
    pub changed : ChangesEach (MayLook st (moment_of facts)) ss seen
    pub next : IsNext (Due facts) seen turn i
    pub looked : Both (Watches st (moment_of facts)) (slice_get ss i) (slice_get seen i)

  -- Guards look at some of the sockets. Then none is due, and each guard has looked at its socket as it is.
  pub record Quiets (ss seen : List (Slot G)) : Type 0 where
    pub changed : ChangesEach (MayLook st (moment_of facts)) ss seen
    pub none : Nowhere (Due facts) seen
    pub all : Nowhere (Unseen st) seen

module _ {G : Type 0} (facts : Facts) (tells : G → ℕ → Type 0) (st : GuardSettings) where
  -- From the place whose turn it is, the sockets that are due have their turns one after the other, until one of them
  -- has written a packet or its packet does not fit, or none is due; the next turn is that of the place behind. A
  -- packet that was dropped is counted.
  pub data Speaks : List (Slot G) → ℕ → Counters → List ℕ → Result ℕ TooShort → List (Slot G) → ℕ → Counters → List ℕ
      → Type 0 where
    Quiet : (ss seen : List (Slot G)) (turn : ℕ) (k : Counters) (out : List ℕ)
        → Quiets facts st ss seen → Speaks ss turn k out (Ok 0) seen turn k out
    Packet : (ss seen ts : List (Slot G)) (turn i : ℕ) (n : Sent) (k : Counters) (out out' : List ℕ)
        → Readies facts st ss turn i seen → TurnAt facts tells seen i out (Ok tt) n ts out' → 0 < n.len
        → Speaks ss turn k out (Ok n.len) ts (i + 1) k out'
    Short : (ss seen ts : List (Slot G)) (turn i : ℕ) (n : Sent) (k : Counters) (out out' : List ℕ) (e : TooShort)
        → Readies facts st ss turn i seen → TurnAt facts tells seen i out (Err e) n ts out'
        → Speaks ss turn k out (Err e) ts (i + 1) k out'
    Silent : (ss seen us ts : List (Slot G)) (turn i turn' : ℕ) (n : Sent) (k k' : Counters) (out mid out' : List ℕ)
        (r : Result ℕ TooShort) → Readies facts st ss turn i seen → TurnAt facts tells seen i out (Ok tt) n us mid
        → n.len ≡ 0 → Speaks us (i + 1) (lost_by n.lost (is_tcp_at (slice_get us i)) k) mid r ts turn' k' out'
        → Speaks ss turn k out r ts turn' k' out'
