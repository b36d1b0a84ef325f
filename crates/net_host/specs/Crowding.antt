-- How many connections a source has, and whether it may have one more.
use Rattle.std.specs.Prelude.{ℕ, ◌≡◌, ◌+◌, ◌*◌, ◌/◌, ◌<◌, ◌≤◌, ◌^◌, ◌&&◌, nat_eq, if◌then◌else◌, List, length, Option}
use Rattle.std.specs.Prelude.{Some, None, Bool, true, false}
use Rattle.std.specs.List.{IsDistinct, list_any}
use Rattle.ip_wire.specs.IpHeader.{src_addr_of}
use Rattle.ip_wire.specs.declared.repr.IpRepr.{IpRepr}
use Rattle.control_wire.specs.Segment.{Segment}
use Rattle.sock_tcp.specs.View.{View}
use Rattle.sock_tcp.specs.declared.state.State.{State}
use Rattle.sock_tcp.specs.declared.state.State.TheVariants as state
use Rattle.sock_tcp.specs.declared.tuple.Tuple.{Tuple}
use Rattle.smoltcp_socket.specs.declared.socket.Socket.{Socket}
use Rattle.smoltcp_socket.specs.declared.socket.Socket.TheVariants as socket
use Rattle.net_host.specs.Filing.{number_of}
use Rattle.net_host.specs.Resting.{is_opening}
use Rattle.net_host.specs.Walks.{IsAt}
use Rattle.net_host.specs.declared.cookies.Course.{Course}
use Rattle.net_host.specs.declared.cookies.Course.TheVariants as course
use Rattle.net_host.specs.declared.segments.Taker.{Taker}
use Rattle.net_host.specs.declared.segments.Taker.TheVariants as taker
use Rattle.net_host.specs.declared.slot.Slot.{Slot}

-- ---- sources

-- The addresses that count as one source, by their numbers: one of IPv4, 64 bits of IPv6. In ::/64, where nobody has
-- more than one, each counts for itself.
abbrev pub first_of : ℕ → ℕ
first_of n = if nat_eq (n / 2 ^ 64) 0 then n else n / 2 ^ 64 * 2 ^ 64

abbrev pub last_of : ℕ → ℕ
last_of n = if nat_eq (n / 2 ^ 64) 0 then n else n / 2 ^ 64 * 2 ^ 64 + 18446744073709551615

-- ---- connections

abbrev pub has_peer : State → Bool
has_peer state.Closed = false
has_peer state.Listen = false
has_peer _ = true

-- a connection between two ports, with one of these addresses; also one in TIME-WAIT
pub record IsOf (first last : ℕ) (v : View) : Type 0 where
  pub tuple : Tuple
  pub peer : has_peer v.state ≡ true
  pub known : v.tuple ≡ Some tuple
  pub local_port : tuple.local.port < 65536
  pub remote_port : tuple.remote.port < 65536
  pub behind : first ≤ number_of tuple.remote.addr
  pub until : number_of tuple.remote.addr ≤ last

abbrev pub IsOfIn : {G : Type 0} → ℕ → ℕ → Option (Socket G) → Type 0
IsOfIn first last None = ⊥
IsOfIn first last (Some (socket.Raw x)) = ⊥
IsOfIn first last (Some (socket.Icmp x)) = ⊥
IsOfIn first last (Some (socket.Udp x)) = ⊥
IsOfIn first last (Some (socket.Tcp x)) = IsOf first last x.control_block

-- a TCP connection of the source with this number
abbrev pub Comes : {G : Type 0} → ℕ → Slot G → Type 0
Comes n slot = IsOfIn (first_of n) (last_of n) slot.socket

-- P holds of fewer than n elements: places without repetition, each with one, are fewer
abbrev pub AreFewer : {X : Type 0} → (X → Type 0) → List X → ℕ → Type 0
AreFewer P xs n =
    (ps : List ℕ) → IsDistinct nat_eq ps → ((k : ℕ) → list_any (nat_eq k) ps ≡ true → IsAt P xs k) → length ps < n

-- ---- what becomes of a segment

abbrev pub is_new : Taker → Bool
is_new (taker.Listener k) = true
is_new (taker.Reused k) = true
is_new _ = false

-- whether a connection begins, or is offered by a cookie; that a connection opens itself again is none more
abbrev pub begins : Course → Taker → Segment → Bool
begins course.Plain t s = is_new t && is_opening s
begins course.Doubted t s = false
begins (course.Answered k number) t s = true
begins (course.Believed class number) t s = true
begins course.Dropped t s = false

abbrev pub dropped_if : Bool → Course → Course
dropped_if true c = course.Dropped
dropped_if false c = c

-- Whether the segment is dropped, as its source has as many connections as are allowed, which is 0 where any number is.
-- Where it is not and a connection begins, the source has fewer.
pub record IsLimited {G : Type 0} (most : ℕ) (ss : List (Slot G)) (ip : IpRepr) (s : Segment) (t : Taker) (c : Course)
    (dropped : Bool) : Type 0 where
  pub few : dropped ≡ false → begins c t s ≡ true → 0 < most → AreFewer (Comes (number_of (src_addr_of ip))) ss most
  pub unlimited : most ≡ 0 → dropped ≡ false
  pub others : begins c t s ≡ false → dropped ≡ false
