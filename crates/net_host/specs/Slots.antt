-- The places of a set, and what is done to one.
use Rattle.std.specs.Prelude.{ℕ, ◌≡◌, ◌+◌, ◌%◌, ◌^◌, ◌==◌, List, slice_get, Option, Some, None, if◌then◌else◌}
use Rattle.smoltcp_socket.specs.declared.socket.Socket.{Socket}
use Rattle.smoltcp_socket.specs.declared.socket.Socket.TheVariants as socket
use Rattle.smoltcp_socket.specs.Kinds.{icmp_of, raw_of, tcp_of, udp_of}
use Rattle.sock_dgram.specs.Icmp as icmp
use Rattle.sock_dgram.specs.Raw as raw
use Rattle.sock_dgram.specs.Udp as udp
use Rattle.sock_tcp.specs.declared.socket.Socket as tcp
use Rattle.net_host.specs.declared.guard.Phase.TheVariants.{Free}
use Rattle.net_host.specs.declared.slot.Slot.{Slot}
use Rattle.net_host.specs.declared.slot.SocketHandle.{SocketHandle}

abbrev pub IsFree : {G : Type 0} → Slot G → Type 0
IsFree s = s.socket ≡ None

-- a place that no socket was put to yet: generations begin at 1, so a handle of zeros names nothing
pub record IsFirstFree {G : Type 0} (s : Slot G) : Type 0 where
  pub free : IsFree s
  pub generation : s.generation ≡ 1

-- the socket that a place has under a generation
abbrev pub held : {G : Type 0} → Option (Slot G) → ℕ → Option (Socket G)
held None g = None
held (Some s) g = if s.generation == g then s.socket else None

-- the socket of a handle
abbrev pub socket_at : {G : Type 0} → List (Slot G) → SocketHandle → Option (Socket G)
socket_at ss h = held (slice_get ss h.index) h.generation

-- how many SYNs opened the socket that a place has under a generation
abbrev pub opened_in : {G : Type 0} → ℕ → Option (Socket G) → Option ℕ
opened_in n None = None
opened_in n (Some s) = Some n

abbrev pub opened_under : {G : Type 0} → Option (Slot G) → ℕ → Option ℕ
opened_under None g = None
opened_under (Some s) g = if s.generation == g then opened_in s.opened s.socket else None

-- the same of a handle
abbrev pub opened_at : {G : Type 0} → List (Slot G) → SocketHandle → Option ℕ
opened_at ss h = opened_under (slice_get ss h.index) h.generation

-- the same of one kind
abbrev pub tcp_in : {G : Type 0} → Option (Socket G) → Option (tcp.Socket G)
tcp_in None = None
tcp_in (Some s) = tcp_of s

abbrev pub tcp_at : {G : Type 0} → List (Slot G) → SocketHandle → Option (tcp.Socket G)
tcp_at ss h = tcp_in (socket_at ss h)

abbrev pub udp_in : {G : Type 0} → Option (Socket G) → Option udp.View
udp_in None = None
udp_in (Some s) = udp_of s

abbrev pub udp_at : {G : Type 0} → List (Slot G) → SocketHandle → Option udp.View
udp_at ss h = udp_in (socket_at ss h)

abbrev pub icmp_in : {G : Type 0} → Option (Socket G) → Option icmp.View
icmp_in None = None
icmp_in (Some s) = icmp_of s

abbrev pub icmp_at : {G : Type 0} → List (Slot G) → SocketHandle → Option icmp.View
icmp_at ss h = icmp_in (socket_at ss h)

abbrev pub raw_in : {G : Type 0} → Option (Socket G) → Option raw.View
raw_in None = None
raw_in (Some s) = raw_of s

abbrev pub raw_at : {G : Type 0} → List (Slot G) → SocketHandle → Option raw.View
raw_at ss h = raw_in (socket_at ss h)

-- the handle of a place with a socket
abbrev pub handle_of : {G : Type 0} → ℕ → ℕ → Option (Socket G) → Option SocketHandle
handle_of i g None = None
handle_of i g (Some s) = Some (record { index = i; generation = g })

abbrev pub handle_in : {G : Type 0} → ℕ → Option (Slot G) → Option SocketHandle
handle_in i None = None
handle_in i (Some s) = handle_of i s.generation s.socket

abbrev pub handle_at : {G : Type 0} → List (Slot G) → ℕ → Option SocketHandle
handle_at ss i = handle_in i (slice_get ss i)

-- a socket is put there, under this handle
pub record Fills {G : Type 0} (put : Socket G) (h : SocketHandle) (before after : Slot G) : Type 0 where
  pub handle : h.generation ≡ before.generation
  pub generation : after.generation ≡ before.generation
  pub socket : after.socket ≡ Some put
  pub phase : after.guard.phase ≡ Free
  pub since : after.guard.since ≡ None
  pub end : after.guard.end ≡ None
  pub last : after.guard.last ≡ None
  pub moment : after.guard.moment ≡ None
  pub opened : after.opened ≡ 0

-- the socket is taken out, and the next one has another handle
pub record Empties {G : Type 0} (taken : Socket G) (before after : Slot G) : Type 0 where
  pub socket : before.socket ≡ Some taken
  pub free : after.socket ≡ None
  pub generation : after.generation ≡ (before.generation + 1) % 2 ^ 64

-- a call leaves the socket of this generation so, which is of a kind, and all else of the place is as it was
pub record LeavesSocket {G K : Type 0} (of_kind : Socket G → Option K) (held : K → Socket G) (call : K → K → Type 0)
    (g : ℕ) (before after : Slot G) : Type 0 where
  pub generation : before.generation ≡ g
  pub any : Socket G
  pub there : before.socket ≡ Some any
  pub socket : K
  pub is : of_kind any ≡ Some socket
  pub left : K
  pub called : call socket left
  pub now : after ≡ record before { socket = Some (held left) }

abbrev pub LeavesAny : {G : Type 0} → (Socket G → Socket G → Type 0) → ℕ → Slot G → Slot G → Type 0
LeavesAny call g before after = LeavesSocket (λ e. Some e) (λ s. s) call g before after

abbrev pub LeavesTcp : {G : Type 0} → (tcp.Socket G → tcp.Socket G → Type 0) → ℕ → Slot G → Slot G → Type 0
LeavesTcp call g before after = LeavesSocket (λ e. tcp_of e) (λ x. socket.Tcp x) call g before after
