-- A connection is opened from an interface: by which of its addresses, from which port, and what the socket does.
use Rattle.std.specs.Prelude.{ℕ, ◌≡◌, ◌%◌, ◌^◌, Bool, true, List, Option, Some, None, Result, Ok, Err, if◌then◌else◌}
use Rattle.std.specs.List.{list_any}
use Rattle.ip_wire.specs.declared.address.IpAddress.{IpAddress}
use Rattle.ip_wire.specs.declared.endpoint.IpEndpoint.{IpEndpoint}
use Rattle.ip_wire.specs.declared.endpoint.IpListenEndpoint.{IpListenEndpoint}
use Rattle.sock_core.specs.Facts.{Facts}
use Rattle.sock_tcp.specs.Draw.{Draws}
use Rattle.sock_tcp.specs.Opening.{Connects as ConnectsBy}
use Rattle.sock_tcp.specs.declared.error.ConnectError.{ConnectError}
use Rattle.sock_tcp.specs.declared.error.ConnectError.TheVariants as connect_error
use Rattle.sock_tcp.specs.declared.socket.Socket as tcp
use Rattle.smoltcp_socket.specs.declared.socket.Socket.{Socket}
use Rattle.smoltcp_socket.specs.declared.socket.Socket.TheVariants as socket
use Rattle.net_host.specs.Addresses.{source_of}
use Rattle.net_host.specs.Ports.{Connects, FindsFree, at_port}
use Rattle.net_host.specs.Slots.{tcp_at}
use Rattle.net_host.specs.Walks.{ChangesAt, Finds}
use Rattle.net_host.specs.declared.cidr.IpCidr.{IpCidr}
use Rattle.net_host.specs.declared.opening.OpenError.{OpenError}
use Rattle.net_host.specs.declared.opening.OpenError.TheVariants as open_error
use Rattle.net_host.specs.declared.slot.Slot.{Slot}
use Rattle.net_host.specs.declared.slot.SocketHandle.{SocketHandle}

-- ---- the local endpoint

-- the address that is asked for, if it is one of the interface's, else that from which packets go to the peer
abbrev pub local_address : (IpAddress → IpAddress → Bool) → List IpCidr → Option IpAddress → IpAddress
    → Option IpAddress
local_address is own None dst = source_of own dst
local_address is own (Some a) dst = if list_any (λ c. is c.address a) own then Some a else None

-- the port that is asked for, if no socket has this connection; of 0 the first free one from a random one on
abbrev pub given_port : Option ℕ → ℕ → Option ℕ
given_port None port = Some port
given_port (Some i) port = None

pub record IsGiven {G : Type 0} (a : IpAddress) (port : ℕ) (remote : IpEndpoint) (ss : List (Slot G)) (r : Option ℕ)
    : Type 0 where
  pub found : Option ℕ
  pub finds : Finds (Connects (at_port a port) remote) ss found
  pub answer : r ≡ given_port found port

abbrev pub FindsPort : {G : Type 0} → IpAddress → ℕ → IpEndpoint → List (Slot G) → ℕ → Option ℕ → Type 0
FindsPort a port remote ss start r =
    (port ≡ 0 → FindsFree (λ p s. Connects (at_port a p) remote s) ss start r)
    × ((port ≡ 0 → ⊥) → IsGiven a port remote ss r)

-- ---- the call of the socket

abbrev pub refused : ConnectError → OpenError
refused connect_error.InvalidState = open_error.InvalidState
refused connect_error.Unaddressable = open_error.Unaddressable

abbrev pub open_answer : {U : Type 0} → Result U ConnectError → IpEndpoint → Result IpEndpoint OpenError
open_answer (Ok u) local = Ok local
open_answer (Err e) local = Err (refused e)

-- from this address and port
abbrev pub listening_at : IpEndpoint → IpListenEndpoint
listening_at e = record { addr = Some e.addr; port = e.port }

module _ {C G : Type 0} (facts : C → Facts) (word_at : C → ℕ → ℕ) where
  pub record TcpOpens (x : tcp.Socket G) (cx : C) (remote local : IpEndpoint) (r : Result IpEndpoint OpenError)
      (y : tcp.Socket G) (cx' : C) : Type 0 where
    pub answer : Result (Unit {0}) ConnectError
    pub call : ConnectsBy facts word_at x.control_block cx remote (listening_at local) answer y.control_block cx'
    pub generator : y.tsval_generator ≡ x.tsval_generator
    pub result : r ≡ open_answer answer local

  abbrev pub SocketOpens : Option (Socket G) → C → IpEndpoint → IpEndpoint → Result IpEndpoint OpenError
      → Option (Socket G) → C → Type 0
  SocketOpens (Some (socket.Tcp x)) cx remote local r (Some (socket.Tcp y)) cx' = TcpOpens x cx remote local r y cx'
  SocketOpens _ cx remote local r _ cx' = ⊥

  -- the slot's TCP socket connects, and its handle and limits stay
  pub record SlotOpens (before : Slot G) (cx : C) (remote local : IpEndpoint) (r : Result IpEndpoint OpenError)
      (after : Slot G) (cx' : C) : Type 0 where
    pub generation : after.generation ≡ before.generation
    pub guard : after.guard ≡ before.guard
    pub socket : SocketOpens before.socket cx remote local r after.socket cx'

  -- the socket of the handle connects, and no other changes; nothing does where no TCP socket has the handle
  abbrev pub OpensIf : Option (tcp.Socket G) → List (Slot G) → ℕ → C → IpEndpoint → IpEndpoint
      → Result IpEndpoint OpenError → List (Slot G) → C → Type 0
  OpensIf None ss i cx remote local r ts cx' = (r ≡ Err open_error.NoSocket) × (ts ≡ ss) × (cx' ≡ cx)
  OpensIf (Some x) ss i cx remote local r ts cx' =
      ChangesAt (λ before after. SlotOpens before cx remote local r after cx') ss i ts

  abbrev pub OpensAt : List (Slot G) → SocketHandle → C → IpEndpoint → IpEndpoint → Result IpEndpoint OpenError
      → List (Slot G) → C → Type 0
  OpensAt ss h cx remote local r ts cx' = OpensIf (tcp_at ss h) ss h.index cx remote local r ts cx'

  -- ---- the whole: an address, then a port, then the socket

  abbrev pub OpensFrom : IpAddress → Option ℕ → List (Slot G) → SocketHandle → C → IpEndpoint
      → Result IpEndpoint OpenError → List (Slot G) → C → Type 0
  OpensFrom a None ss h cx remote r ts cx' = (r ≡ Err open_error.InUse) × (ts ≡ ss) × (cx' ≡ cx)
  OpensFrom a (Some port) ss h cx remote r ts cx' = OpensAt ss h cx remote (at_port a port) r ts cx'

  -- a port is looked for from a random one on, which is drawn first
  pub record OpensBy (a : IpAddress) (asked : ℕ) (ss : List (Slot G)) (h : SocketHandle) (cx : C) (remote : IpEndpoint)
      (r : Result IpEndpoint OpenError) (ts : List (Slot G)) (cx' : C) : Type 0 where
    pub port : Option ℕ
    pub drawn : C
    pub draws : Draws true facts word_at cx drawn
    pub finds : FindsPort a asked remote ss (word_at cx 0 % 2 ^ 16) port
    pub opens : OpensFrom a port ss h drawn remote r ts cx'

  abbrev pub Opens : Option IpAddress → ℕ → List (Slot G) → SocketHandle → C → IpEndpoint
      → Result IpEndpoint OpenError → List (Slot G) → C → Type 0
  Opens None asked ss h cx remote r ts cx' = (r ≡ Err open_error.Unaddressable) × (ts ≡ ss) × (cx' ≡ cx)
  Opens (Some a) asked ss h cx remote r ts cx' = OpensBy a asked ss h cx remote r ts cx'
