-- What a host does with one socket and its guard.
use Rattle.std.specs.Prelude.{ℕ, ◌≡◌, List, Bool, true, false, Option, Some, None, Result, Ok}
use Rattle.net_base.specs.declared.time.Instant.{Instant}
use Rattle.sock_core.specs.Facts.{Facts}
use Rattle.sock_core.specs.declared.context.PollAt.{PollAt}
use Rattle.sock_core.specs.declared.context.PollAt.TheVariants as poll
use Rattle.sock_tcp.specs.Polls.{is_reached}
use Rattle.sock_tcp.specs.Timers.{after}
use Rattle.sock_tcp.specs.View.{moment_of}
use Rattle.host_guard.specs.Guarding.{not_before}
use Rattle.smoltcp_socket.specs.Kinds.{polls}
use Rattle.smoltcp_socket.specs.declared.socket.Socket.{Socket}
use Rattle.smoltcp_socket.specs.declared.socket.Socket.TheVariants as socket
use Rattle.net_host.specs.Emissions.{DispatchesDatagram, DispatchesMessage, DispatchesRaw, DispatchesSegment}
use Rattle.net_host.specs.Guards.{guarded_poll}
use Rattle.net_host.specs.Watching.{Asks, Looks, is_over_for, may_turn}
use Rattle.net_host.specs.Remembered.{Remembered as Guard}
use Rattle.net_host.specs.declared.guard.GuardSettings.{GuardSettings}
use Rattle.net_host.specs.declared.guard.Phase.{Phase}
use Rattle.net_host.specs.declared.slot.Slot.{Slot}
use Rattle.net_host.specs.declared.wire.Sent.{Sent}
use Rattle.net_host.specs.declared.wire.TooShort.{TooShort}

-- ---- the guard looks at the socket

abbrev pub WatchesIn : {G : Type 0} → GuardSettings → Instant → Option (Socket G) → Guard → Option (Socket G) → Guard
    → Type 0
WatchesIn st now (Some (socket.Tcp x)) g (Some (socket.Tcp y)) h =
    Looks st now x.control_block g h y.control_block × (y.tsval_generator ≡ x.tsval_generator)
WatchesIn st now (Some (socket.Tcp x)) g _ h = ⊥
WatchesIn st now s g t h = (t ≡ s) × (h ≡ g)

pub record Watches {G : Type 0} (st : GuardSettings) (now : Instant) (before after : Slot G) : Type 0 where
  pub generation : after.generation ≡ before.generation
  pub opened : after.opened ≡ before.opened
  pub looked : WatchesIn st now before.socket before.guard after.socket after.guard

-- whether the guard ends what its socket has lasted in
abbrev pub ends_in : {G : Type 0} → GuardSettings → Instant → Option (Socket G) → Guard → Bool
ends_in st now (Some (socket.Tcp x)) g = is_over_for st g x.control_block now
ends_in st now s g = false

abbrev pub ends : {G : Type 0} → GuardSettings → Instant → Slot G → Bool
ends st now s = ends_in st now s.socket s.guard

-- ---- when it wants to speak

-- as the socket asks, and its guard allows
abbrev pub asked_of : {G : Type 0} → Phase → Option Instant → Option Instant → Option (Socket G) → Facts → PollAt
asked_of p end last None f = poll.Ingress
asked_of p end last (Some s) f = guarded_poll p end last (polls s f)

-- whether its guard allows it to speak now
abbrev pub may_speak : {G : Type 0} → Slot G → Instant → Bool
may_speak s now = may_turn s.guard now

-- else it waits for a microsecond
abbrev pub delayed : Bool → Instant → PollAt → PollAt
delayed true now asked = asked
delayed false now asked = not_before (after now (record { micros = 1 })) asked

abbrev pub slot_poll : {G : Type 0} → Slot G → Facts → PollAt
slot_poll s f =
    delayed (may_speak s (moment_of f)) (moment_of f)
    (asked_of s.guard.phase s.guard.end s.guard.last s.socket f)

abbrev pub is_due : {G : Type 0} → Facts → Slot G → Bool
is_due f s = is_reached (slot_poll s f) (moment_of f)

-- ---- it speaks

-- no packet
abbrev pub nothing_sent : Sent
nothing_sent = record { len = 0; lost = false }

module _ {G : Type 0} (facts : Facts) (tells : G → ℕ → Type 0) where
  abbrev pub SocketEmits : Option (Socket G) → List ℕ → Result (Unit {0}) TooShort → Sent → Option (Socket G) → List ℕ
      → Type 0
  SocketEmits (Some (socket.Tcp x)) out r n (Some (socket.Tcp y)) out' =
      DispatchesSegment facts tells x.tsval_generator x.control_block out r n y.control_block out'
      × (y.tsval_generator ≡ x.tsval_generator)
  SocketEmits (Some (socket.Udp x)) out r n (Some (socket.Udp y)) out' = DispatchesDatagram facts x out r n y out'
  SocketEmits (Some (socket.Icmp x)) out r n (Some (socket.Icmp y)) out' = DispatchesMessage facts x out r n y out'
  SocketEmits (Some (socket.Raw x)) out r n (Some (socket.Raw y)) out' = DispatchesRaw facts x out r n y out'
  SocketEmits None out r n None out' = (r ≡ Ok tt) × (n ≡ nothing_sent) × (out' ≡ out)
  SocketEmits _ out r n _ out' = ⊥

  pub record SlotEmits (before : Slot G) (out : List ℕ) (r : Result (Unit {0}) TooShort) (n : Sent) (after : Slot G)
      (out' : List ℕ) : Type 0 where
    pub generation : after.generation ≡ before.generation
    pub opened : after.opened ≡ before.opened
    pub guard : after.guard ≡ before.guard
    pub emits : SocketEmits before.socket out r n after.socket out'

  -- with leave of the guard or without
  abbrev pub EmitsIf : Bool → Option (Socket G) → List ℕ → Result (Unit {0}) TooShort → Sent → Option (Socket G)
      → List ℕ → Type 0
  EmitsIf true s out r n t out' = SocketEmits s out r n t out'
  EmitsIf false s out r n t out' = (t ≡ s) × (r ≡ Ok tt) × (n ≡ nothing_sent) × (out' ≡ out)

  pub record TakesTurn (before : Slot G) (out : List ℕ) (r : Result (Unit {0}) TooShort) (n : Sent) (after : Slot G)
      (out' : List ℕ) : Type 0 where
    pub generation : after.generation ≡ before.generation
    pub opened : after.opened ≡ before.opened
    pub asked : Asks (moment_of facts) before.guard after.guard
    pub emits : EmitsIf (may_speak before (moment_of facts)) before.socket out r n after.socket out'
