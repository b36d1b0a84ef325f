-- Connections in TIME-WAIT that give way to a SYN, and sockets that serve a port.
use Rattle.std.specs.Prelude.{ℕ, ◌≡◌, ◌<◌, ◌&&◌, nat_lt, int_lt, ◌≤ℤ◌, ◌<ℤ◌, List, length, Bool, true, false, Option}
use Rattle.std.specs.Prelude.{Some, None, IfSome, slice_get}
use Rattle.ip_wire.specs.declared.repr.IpRepr.{IpRepr}
use Rattle.net_base.specs.declared.time.Instant.{Instant}
use Rattle.control_wire.specs.Segment.{Segment}
use Rattle.control_wire.specs.Seq.{seq_sub}
use Rattle.control_wire.specs.declared.seq_number.TcpSeqNumber.{TcpSeqNumber}
use Rattle.control_wire.specs.declared.tcp.TcpControl.{TcpControl}
use Rattle.control_wire.specs.declared.tcp.TcpControl.TheVariants as control
use Rattle.sock_tcp.specs.Ends.{close_end}
use Rattle.sock_tcp.specs.Opening.{listened}
use Rattle.sock_tcp.specs.Process.{IsToListener}
use Rattle.sock_tcp.specs.Queues.{can_recv}
use Rattle.sock_tcp.specs.View.{View}
use Rattle.sock_tcp.specs.Window.{next_ack}
use Rattle.sock_tcp.specs.declared.state.State.{State}
use Rattle.sock_tcp.specs.declared.state.State.TheVariants as state
use Rattle.smoltcp_socket.specs.declared.socket.Socket.{Socket}
use Rattle.smoltcp_socket.specs.declared.socket.Socket.TheVariants as socket
use Rattle.net_host.specs.Entries.{is_ordered}
use Rattle.net_host.specs.declared.slot.Slot.{Slot}

-- a SYN without an ACK
abbrev pub opens_by : TcpControl → Option TcpSeqNumber → Bool
opens_by control.Syn None = true
opens_by _ ack = false

abbrev pub is_opening : Segment → Bool
is_opening s = opens_by s.control s.ack_number

-- behind another number, by less than half of the circle
abbrev pub is_above : TcpSeqNumber → TcpSeqNumber → Bool
is_above a b = nat_lt 0 (seq_sub a b) && nat_lt (seq_sub a b) 2147483648

abbrev pub is_resting : State → Bool
is_resting state.TimeWait = true
is_resting _ = false

-- a TCP socket in TIME-WAIT that listened for this segment, and has nothing left to read
pub record RestsFor (v : View) (ip : IpRepr) (s : Segment) : Type 0 where
  pub state : is_resting v.state ≡ true
  pub read : can_recv v ≡ false
  pub served : IsToListener v.listen_endpoint ip s

abbrev pub RestsIn : {G : Type 0} → Option (Socket G) → IpRepr → Segment → Type 0
RestsIn None ip s = ⊥
RestsIn (Some (socket.Raw x)) ip s = ⊥
RestsIn (Some (socket.Icmp x)) ip s = ⊥
RestsIn (Some (socket.Udp x)) ip s = ⊥
RestsIn (Some (socket.Tcp x)) ip s = RestsFor x.control_block ip s

abbrev pub Rests : {G : Type 0} → IpRepr → Segment → Slot G → Type 0
Rests ip s slot = RestsIn slot.socket ip s

-- ---- its own connection is opened again

abbrev pub IsAboveIn : {G : Type 0} → Option (Socket G) → TcpSeqNumber → Type 0
IsAboveIn (Some (socket.Tcp x)) n = is_above n (next_ack x.control_block) ≡ true
IsAboveIn _ n = ⊥

-- by a SYN above the old number (RFC 9293, section 3.6.1)
pub record Reopens {G : Type 0} (ip : IpRepr) (s : Segment) (slot : Slot G) : Type 0 where
  pub opening : is_opening s ≡ true
  pub rests : Rests ip s slot
  pub above : IsAboveIn slot.socket s.seq_number

-- ---- it gives way to another

abbrev pub EndsIn : {G : Type 0} → Option (Socket G) → Instant → Type 0
EndsIn (Some (socket.Tcp x)) t = close_end x.control_block.timer ≡ Some t
EndsIn _ t = ⊥

-- its TIME-WAIT ends at t, which is within 2^61 microseconds of zero
pub record RestsUntil {G : Type 0} (ip : IpRepr) (s : Segment) (t : Instant) (slot : Slot G) : Type 0 where
  pub rests : Rests ip s slot
  pub ends : EndsIn slot.socket t
  pub ordered : is_ordered t ≡ true

-- P of this moment alone, or of none
abbrev pub OnlyOf : (Instant → Type 0) → Option Instant → Type 0
OnlyOf P None = (u : Instant) → P u → ⊥
OnlyOf P (Some t) = P t × ((u : Instant) → P u → u ≡ t)

-- of two elements the one with the earlier moment
abbrev pub earlier_if : Bool → Option (ℕ × Instant) → ℕ × Instant → Option (ℕ × Instant)
earlier_if true p q = Some q
earlier_if false p q = p

abbrev pub earlier_of : Option (ℕ × Instant) → ℕ → Option Instant → Option (ℕ × Instant)
earlier_of p i None = p
earlier_of None i (Some t) = Some (i, t)
earlier_of (Some p) i (Some t) = earlier_if (int_lt t.micros p.1.micros) (Some p) (i, t)

-- R of the element at i and this moment, and of no element with an earlier one; of several with the same the first
pub record IsEarliest {X : Type 0} (R : Instant → X → Type 0) (xs : List X) (i : ℕ) (t : Instant) : Type 0 where
  pub within : i < length xs
  pub holds : IfSome (slice_get xs i) (R t)
  pub others : (k : ℕ) (u : Instant) → IfSome (slice_get xs k) (λ x. R u x → t.micros ≤ℤ u.micros)
  pub before : (k : ℕ) (u : Instant) → k < i → IfSome (slice_get xs k) (λ x. R u x → t.micros <ℤ u.micros)

abbrev pub FindsEarliest : {X : Type 0} → (Instant → X → Type 0) → List X → Option (ℕ × Instant) → Type 0
FindsEarliest R xs None = (k : ℕ) (u : Instant) → IfSome (slice_get xs k) (λ x. R u x → ⊥)
FindsEarliest R xs (Some p) = IsEarliest R xs p.0 p.1

-- the one that has rested longest, and until when
abbrev pub FindsOldest : {G : Type 0} → IpRepr → Segment → List (Slot G) → Option (ℕ × Instant) → Type 0
FindsOldest ip s ss found = FindsEarliest (λ t x. RestsUntil ip s t x) ss found

pub record IsOldest {G : Type 0} (ip : IpRepr) (s : Segment) (ss : List (Slot G)) (i : ℕ) : Type 0 where
  pub until : Instant
  pub found : FindsOldest ip s ss (Some (i, until))

-- it listens again
abbrev pub anew : View → View
anew v = listened v v.listen_endpoint

-- ---- who serves a port

abbrev pub is_serving : State → Bool
is_serving state.Closed = false
is_serving state.Listen = false
is_serving state.TimeWait = false
is_serving _ = true

abbrev pub ServesIn : {G : Type 0} → Option (Socket G) → IpRepr → Segment → Type 0
ServesIn None ip s = ⊥
ServesIn (Some (socket.Raw x)) ip s = ⊥
ServesIn (Some (socket.Icmp x)) ip s = ⊥
ServesIn (Some (socket.Udp x)) ip s = ⊥
ServesIn (Some (socket.Tcp x)) ip s =
    (is_serving x.control_block.state ≡ true) × IsToListener x.control_block.listen_endpoint ip s

-- a TCP socket with a connection, that listened for this segment
abbrev pub Serves : {G : Type 0} → IpRepr → Segment → Slot G → Type 0
Serves ip s slot = ServesIn slot.socket ip s
