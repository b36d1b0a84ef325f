-- Which socket takes a UDP datagram, and what becomes of it.
use Rattle.std.specs.Prelude.{ℕ, ◌≡◌, List, length, Option, Some, None, Bool}
use Rattle.ip_wire.specs.declared.repr.IpRepr.{IpRepr}
use Rattle.control_wire.specs.declared.udp.UdpRepr.{UdpRepr}
use Rattle.net_base.specs.Packets.{takes}
use Rattle.sock_core.specs.Facts.{Facts}
use Rattle.sock_dgram.specs.Udp.{Accepts}
use Rattle.sock_dgram.specs.UdpCalls.{Effect, Process}
use Rattle.smoltcp_socket.specs.declared.socket.Socket.{Socket}
use Rattle.smoltcp_socket.specs.declared.socket.Socket.TheVariants as socket
use Rattle.net_host.specs.Walks.{ChangesAt}
use Rattle.net_host.specs.declared.slot.Slot.{Slot}

abbrev pub TakesIn : {G : Type 0} → Facts → Option (Socket G) → IpRepr → UdpRepr → Type 0
TakesIn f None ip u = ⊥
TakesIn f (Some (socket.Raw x)) ip u = ⊥
TakesIn f (Some (socket.Icmp x)) ip u = ⊥
TakesIn f (Some (socket.Tcp x)) ip u = ⊥
TakesIn f (Some (socket.Udp x)) ip u = Accepts x f ip u

-- a UDP socket that accepts the datagram
abbrev pub TakesDatagram : {G : Type 0} → Facts → IpRepr → UdpRepr → Slot G → Type 0
TakesDatagram f ip u slot = TakesIn f slot.socket ip u

-- the call of the socket, and whether there is room in its receive queue
abbrev pub SocketHears : {G : Type 0} → Option (Socket G) → IpRepr → UdpRepr → List ℕ → Bool → Option (Socket G)
    → Type 0
SocketHears (Some (socket.Udp x)) ip u payload room (Some (socket.Udp y)) =
    Effect (Process ip u payload) x y × (room ≡ takes (length payload) x.rx_buffer)
SocketHears _ ip u payload room _ = ⊥

pub record Hears {G : Type 0} (ip : IpRepr) (u : UdpRepr) (payload : List ℕ) (room : Bool) (before after : Slot G)
    : Type 0 where
  pub generation : after.generation ≡ before.generation
  pub opened : after.opened ≡ before.opened
  pub guard : after.guard ≡ before.guard
  pub heard : SocketHears before.socket ip u payload room after.socket

-- the slot at i hears the datagram, and no other changes; or none does
abbrev pub HeardBy : {G : Type 0} → Option ℕ → List (Slot G) → IpRepr → UdpRepr → List ℕ → Bool → List (Slot G)
    → Type 0
HeardBy None ss ip u payload room ts = ts ≡ ss
HeardBy (Some i) ss ip u payload room ts = ChangesAt (λ before after. Hears ip u payload room before after) ss i ts
