-- A UDP socket is bound from an interface: to a port that is given, or to one that none has.
use Rattle.std.specs.Prelude.{ℕ, ◌≡◌, ◌%◌, ◌^◌, true, List, Option, Some, None, Result, Ok, Err}
use Rattle.ip_wire.specs.declared.address.IpAddress.{IpAddress}
use Rattle.ip_wire.specs.declared.endpoint.IpListenEndpoint.{IpListenEndpoint}
use Rattle.sock_core.specs.Facts.{Facts}
use Rattle.sock_dgram.specs.Udp.{View, after_bind, bind_answer}
use Rattle.sock_dgram.specs.declared.error.BindError.{BindError}
use Rattle.sock_dgram.specs.declared.error.BindError.TheVariants as bind_error
use Rattle.sock_tcp.specs.Draw.{Draws}
use Rattle.smoltcp_socket.specs.declared.socket.Socket.{Socket}
use Rattle.smoltcp_socket.specs.declared.socket.Socket.TheVariants as socket
use Rattle.net_host.specs.Openings.{given_port}
use Rattle.net_host.specs.Ports.{Binds, FindsFree}
use Rattle.net_host.specs.Slots.{udp_at}
use Rattle.net_host.specs.Walks.{ChangesAt, Finds}
use Rattle.net_host.specs.declared.opening.OpenError.{OpenError}
use Rattle.net_host.specs.declared.opening.OpenError.TheVariants as open_error
use Rattle.net_host.specs.declared.slot.Slot.{Slot}
use Rattle.net_host.specs.declared.slot.SocketHandle.{SocketHandle}

-- the port that is asked for, if no UDP socket is bound to it; of 0 the first free one from a random one on
pub record IsGivenFree {G : Type 0} (port : ℕ) (ss : List (Slot G)) (r : Option ℕ) : Type 0 where
  pub found : Option ℕ
  pub finds : Finds (Binds port) ss found
  pub answer : r ≡ given_port found port

abbrev pub FindsBinding : {G : Type 0} → ℕ → List (Slot G) → ℕ → Option ℕ → Type 0
FindsBinding port ss start r =
    (port ≡ 0 → FindsFree (λ p s. Binds p s) ss start r) × ((port ≡ 0 → ⊥) → IsGivenFree port ss r)

abbrev pub bind_refused : BindError → OpenError
bind_refused bind_error.InvalidState = open_error.InvalidState
bind_refused bind_error.Unaddressable = open_error.Unaddressable

abbrev pub bound_answer : {U : Type 0} → Result U BindError → ℕ → Result ℕ OpenError
bound_answer (Ok u) port = Ok port
bound_answer (Err e) port = Err (bind_refused e)

-- at this address, or at any
abbrev pub bound_at : Option IpAddress → ℕ → IpListenEndpoint
bound_at a port = record { addr = a; port = port }

pub record UdpBinds (v : View) (a : Option IpAddress) (port : ℕ) (r : Result ℕ OpenError) (w : View) : Type 0 where
  pub result : r ≡ bound_answer (bind_answer v (bound_at a port)) port
  pub view : w ≡ after_bind (bind_answer v (bound_at a port)) v (bound_at a port)

abbrev pub SocketBinds : {G : Type 0} → Option (Socket G) → Option IpAddress → ℕ → Result ℕ OpenError
    → Option (Socket G) → Type 0
SocketBinds (Some (socket.Udp x)) a port r (Some (socket.Udp y)) = UdpBinds x a port r y
SocketBinds _ a port r _ = ⊥

pub record SlotBinds {G : Type 0} (before : Slot G) (a : Option IpAddress) (port : ℕ) (r : Result ℕ OpenError)
    (after : Slot G) : Type 0 where
  pub generation : after.generation ≡ before.generation
  pub guard : after.guard ≡ before.guard
  pub socket : SocketBinds before.socket a port r after.socket

-- the socket of the handle is bound, and no other changes; nothing does where no UDP socket has the handle
abbrev pub BindsIf : {G : Type 0} → Option View → List (Slot G) → ℕ → Option IpAddress → ℕ → Result ℕ OpenError
    → List (Slot G) → Type 0
BindsIf None ss i a port r ts = (r ≡ Err open_error.NoSocket) × (ts ≡ ss)
BindsIf (Some x) ss i a port r ts = ChangesAt (λ before after. SlotBinds before a port r after) ss i ts

abbrev pub BindsFrom : {G : Type 0} → Option ℕ → List (Slot G) → SocketHandle → Option IpAddress → Result ℕ OpenError
    → List (Slot G) → Type 0
BindsFrom None ss h a r ts = (r ≡ Err open_error.InUse) × (ts ≡ ss)
BindsFrom (Some port) ss h a r ts = BindsIf (udp_at ss h) ss h.index a port r ts

module _ {C G : Type 0} (facts : C → Facts) (word_at : C → ℕ → ℕ) where
  -- a port is looked for from a random one on, which is drawn first
  pub record BindsBy (ss : List (Slot G)) (h : SocketHandle) (asked : IpListenEndpoint) (cx : C)
      (r : Result ℕ OpenError) (ts : List (Slot G)) (cx' : C) : Type 0 where
    pub port : Option ℕ
    pub draws : Draws true facts word_at cx cx'
    pub finds : FindsBinding asked.port ss (word_at cx 0 % 2 ^ 16) port
    pub binds : BindsFrom port ss h asked.addr r ts
