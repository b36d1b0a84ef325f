-- Which socket takes a TCP segment, and what becomes of it.
use Rattle.std.specs.Prelude.{ℕ, ◌≡◌, ◌&&◌, if◌then◌else◌, List, Option, Some, None, IfSome, option_map, slice_get}
use Rattle.std.specs.Prelude.{Bool, true, false}
use Rattle.ip_wire.specs.IpHeader.{src_addr_of}
use Rattle.ip_wire.specs.declared.repr.IpRepr.{IpRepr}
use Rattle.net_base.specs.declared.time.Instant.{Instant}
use Rattle.control_wire.specs.Segment.{Segment}
use Rattle.control_wire.specs.declared.tcp.TcpControl.{TcpControl}
use Rattle.control_wire.specs.declared.tcp.TcpControl.TheVariants as control
use Rattle.control_wire.specs.declared.tcp.TcpRepr.{TcpRepr}
use Rattle.sock_core.specs.Facts.{Facts}
use Rattle.sock_tcp.specs.Opening.{is_listening}
use Rattle.sock_tcp.specs.Process.{Accepts, Processes, reply_of, source_kept}
use Rattle.sock_tcp.specs.Replies.{IsReplyStamp, echoed, rst_segment, with_header}
use Rattle.sock_tcp.specs.View.{View}
use Rattle.sock_tcp.specs.declared.tuple.Tuple.{Tuple}
use Rattle.smoltcp_socket.specs.declared.socket.Socket.{Socket}
use Rattle.smoltcp_socket.specs.declared.socket.Socket.TheVariants as socket
use Rattle.net_host.specs.Counts.{next}
use Rattle.net_host.specs.Filing.{number_of}
use Rattle.net_host.specs.Limits.{allows, spent}
use Rattle.net_host.specs.Resting.{FindsOldest, IsOldest, Reopens, Serves, anew, is_opening}
use Rattle.net_host.specs.Walks.{ChangesAt, IsFirst, Nowhere}
use Rattle.net_host.specs.declared.limit.Limit.{Limit}
use Rattle.net_host.specs.declared.segments.Taker.{Taker}
use Rattle.net_host.specs.declared.segments.Taker.TheVariants as taker
use Rattle.net_host.specs.declared.slot.Slot.{Slot}

-- ---- which socket

-- a connection has a peer
abbrev pub has_peer_if : (listening : Bool) → Option Tuple → Bool
has_peer_if true t = true
has_peer_if false None = false
has_peer_if false (Some t) = true

-- a TCP socket that listens, or is a connection, and accepts the segment
abbrev pub TakesIn : {G : Type 0} → Option (Socket G) → Bool → IpRepr → Segment → Type 0
TakesIn None listening ip s = ⊥
TakesIn (Some (socket.Raw x)) listening ip s = ⊥
TakesIn (Some (socket.Icmp x)) listening ip s = ⊥
TakesIn (Some (socket.Udp x)) listening ip s = ⊥
TakesIn (Some (socket.Tcp x)) listening ip s =
    (is_listening x.control_block.state ≡ listening) × Accepts x.control_block ip s
    × (has_peer_if listening x.control_block.tuple ≡ true)

abbrev pub TakesSegment : {G : Type 0} → Bool → IpRepr → Segment → Slot G → Type 0
TakesSegment listening ip s slot = TakesIn slot.socket listening ip s

-- neither a connection nor a listener
abbrev pub NoneTakes : {G : Type 0} → List (Slot G) → IpRepr → Segment → Type 0
NoneTakes ss ip s = Nowhere (TakesSegment false ip s) ss × Nowhere (TakesSegment true ip s) ss

-- A connection comes before a listener, and of each the first in the order of handles. A SYN above the number of a
-- connection in TIME-WAIT opens it again. A SYN that finds no listener goes to the socket in TIME-WAIT that has rested
-- longest and may listen again, else it finds nobody free where some socket serves its port, else nobody.
abbrev pub IsTaker : {G : Type 0} → List (Slot G) → IpRepr → Segment → Taker → Type 0
IsTaker ss ip s (taker.Connection i) =
    IsFirst (TakesSegment false ip s) ss i × IfSome (slice_get ss i) (λ x. Reopens ip s x → ⊥)
IsTaker ss ip s (taker.Reopened i) = IsFirst (TakesSegment false ip s) ss i × IfSome (slice_get ss i) (Reopens ip s)
IsTaker ss ip s (taker.Listener i) = Nowhere (TakesSegment false ip s) ss × IsFirst (TakesSegment true ip s) ss i
IsTaker ss ip s (taker.Reused i) = NoneTakes ss ip s × (is_opening s ≡ true) × IsOldest ip s ss i
IsTaker ss ip s taker.Busy =
    NoneTakes ss ip s × (is_opening s ≡ true) × FindsOldest ip s ss None × ((k : ℕ) × IsFirst (Serves ip s) ss k)
IsTaker ss ip s taker.Nobody =
    NoneTakes ss ip s
    × (is_opening s ≡ true → FindsOldest ip s ss None × Nowhere (Serves ip s) ss)

-- ---- what becomes of it

module _ {C G : Type 0} (facts : C → Facts) (word_at : C → ℕ → ℕ) (tells : G → ℕ → Type 0) where
  -- the call of the socket, which was made ready for it
  abbrev pub SocketHears : (View → View) → Option (Socket G) → C → IpRepr → Segment → Option (IpRepr × TcpRepr)
      → Option (Socket G) → C → Type 0
  SocketHears ready (Some (socket.Tcp x)) cx ip s r (Some (socket.Tcp y)) cx' =
      Processes facts word_at (IsReplyStamp tells y.tsval_generator (echoed y.control_block s.timestamp))
      (ready x.control_block) cx ip s r y.control_block cx'
      × (y.tsval_generator ≡ source_kept y.control_block.stamps x.tsval_generator)
  SocketHears ready _ cx ip s r _ cx' = ⊥

  pub record Hears (ready : View → View) (count : ℕ → ℕ) (before : Slot G) (cx : C) (ip : IpRepr) (s : Segment)
      (r : Option (IpRepr × TcpRepr)) (after : Slot G) (cx' : C) : Type 0 where
    pub generation : after.generation ≡ before.generation
    pub opened : after.opened ≡ count before.opened
    pub guard : after.guard ≡ before.guard
    pub heard : SocketHears ready before.socket cx ip s r after.socket cx'

  -- the slot at i hears the segment, and no other changes
  abbrev pub HearsAt : (View → View) → (ℕ → ℕ) → List (Slot G) → ℕ → C → IpRepr → Segment
      → Option (IpRepr × TcpRepr) → List (Slot G) → C → Type 0
  HearsAt ready count ss i cx ip s r ts cx' =
      ChangesAt (λ before after. Hears ready count before cx ip s r after cx') ss i ts

-- as it is
abbrev pub as_is : View → View
as_is v = v

-- how many SYNs opened the socket: no more
abbrev pub no_more : ℕ → ℕ
no_more n = n

-- one more, where a socket that listens takes a SYN
abbrev pub opened_by : Bool → Segment → ℕ → ℕ
opened_by listening s n = if listening && is_opening s then next n else n

-- ---- a segment for nobody

-- an RST answers it, unless it is one
abbrev pub reset_by : TcpControl → IpRepr → Segment → Option (IpRepr × Segment)
reset_by control.Rst ip s = None
reset_by _ ip s = Some (with_header ip (rst_segment s))

abbrev pub reset_of : IpRepr → Segment → Option (IpRepr × Segment)
reset_of ip s = reset_by s.control ip s

-- ---- what goes out of what answers

abbrev pub is_reset : TcpControl → Bool
is_reset control.Rst = true
is_reset _ = false

abbrev pub is_rst : Option (IpRepr × TcpRepr) → Bool
is_rst None = false
is_rst (Some r) = is_reset r.1.control

abbrev pub sent_if : (rst allowed : Bool) → Option (IpRepr × TcpRepr) → Option (IpRepr × TcpRepr)
sent_if false allowed r = r
sent_if true true r = r
sent_if true false r = None

abbrev pub spent_if : (rst : Bool) → Limit → (source : ℕ) → Instant → Limit
spent_if false l source now = l
spent_if true l source now = spent l source now

-- an RST only where the limit allows the sender one more: one for a segment that no socket takes, and one of a socket
-- whose handshake is not over
pub record SendsWithin (l : Limit) (now : Instant) (ip : IpRepr) (r out : Option (IpRepr × TcpRepr)) (l' : Limit)
    : Type 0 where
  pub reply : out ≡ sent_if (is_rst r) (allows l (number_of (src_addr_of ip)) now) r
  pub limit : l' ≡ spent_if (is_rst r) l (number_of (src_addr_of ip)) now

-- ---- the whole

module _ {C G : Type 0} (facts : C → Facts) (word_at : C → ℕ → ℕ) (tells : G → ℕ → Type 0) where
  -- with this taker
  abbrev pub TakenBy : Taker → List (Slot G) → C → IpRepr → Segment → Option (IpRepr × TcpRepr) → List (Slot G) → C
      → Type 0
  TakenBy (taker.Connection i) ss cx ip s r ts cx' = HearsAt facts word_at tells as_is no_more ss i cx ip s r ts cx'
  TakenBy (taker.Reopened i) ss cx ip s r ts cx' =
      HearsAt facts word_at tells anew (opened_by true s) ss i cx ip s r ts cx'
  TakenBy (taker.Listener i) ss cx ip s r ts cx' =
      HearsAt facts word_at tells as_is (opened_by true s) ss i cx ip s r ts cx'
  TakenBy (taker.Reused i) ss cx ip s r ts cx' =
      HearsAt facts word_at tells anew (opened_by true s) ss i cx ip s r ts cx'
  TakenBy taker.Busy ss cx ip s r ts cx' = (ts ≡ ss) × (cx' ≡ cx) × (r ≡ None)
  TakenBy taker.Nobody ss cx ip s r ts cx' = (ts ≡ ss) × (cx' ≡ cx) × (option_map reply_of r ≡ reset_of ip s)
