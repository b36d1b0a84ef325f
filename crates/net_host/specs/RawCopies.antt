-- A copy of a packet to each raw socket that accepts it.
use Rattle.std.specs.Prelude.{ℕ, ◌≡◌, Bool, true, false, List, Option, Some}
use Rattle.ip_wire.specs.declared.repr.IpRepr.{IpRepr}
use Rattle.sock_core.specs.Facts.{Facts}
use Rattle.sock_dgram.specs.Raw.{Accepts, View}
use Rattle.sock_dgram.specs.RawCalls.{Effect, Process}
use Rattle.smoltcp_socket.specs.declared.socket.Socket.{Socket}
use Rattle.smoltcp_socket.specs.declared.socket.Socket.TheVariants as socket
use Rattle.net_host.specs.Messages.{Where}
use Rattle.net_host.specs.declared.slot.Slot.{Slot}

abbrev pub is_raw_in : {G : Type 0} → Option (Socket G) → Bool
is_raw_in (Some (socket.Raw x)) = true
is_raw_in o = false

abbrev pub is_raw : {G : Type 0} → Slot G → Bool
is_raw s = is_raw_in s.socket

unfoldable pub TakesCopy : Facts → IpRepr → List ℕ → View → View → Type 0
TakesCopy f ip payload x y = Where (Accepts x ip) (Effect (Process f ip payload) x y) (y ≡ x)

abbrev pub SocketCopies : {G : Type 0} → Facts → IpRepr → List ℕ → Option (Socket G) → Option (Socket G) → Type 0
SocketCopies f ip payload (Some (socket.Raw x)) (Some (socket.Raw y)) = TakesCopy f ip payload x y
SocketCopies f ip payload (Some (socket.Raw x)) _ = ⊥
SocketCopies f ip payload s t = t ≡ s

pub record CopiesPacket {G : Type 0} (f : Facts) (ip : IpRepr) (payload : List ℕ) (before after : Slot G) : Type 0 where
  pub generation : after.generation ≡ before.generation
  pub opened : after.opened ≡ before.opened
  pub guard : after.guard ≡ before.guard
  pub copied : SocketCopies f ip payload before.socket after.socket
