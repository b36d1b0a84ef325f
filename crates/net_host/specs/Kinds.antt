-- Which kind a socket is of.
use Rattle.std.specs.Prelude.{Bool, true, false, Option, Some, None}
use Rattle.smoltcp_socket.specs.declared.socket.Socket.{Socket}
use Rattle.smoltcp_socket.specs.declared.socket.Socket.TheVariants as socket
use Rattle.net_host.specs.declared.slot.Slot.{Slot}

abbrev pub is_tcp : {G : Type 0} → Option (Socket G) → Bool
is_tcp (Some (socket.Tcp x)) = true
is_tcp s = false

-- the same of a place
abbrev pub is_tcp_at : {G : Type 0} → Option (Slot G) → Bool
is_tcp_at None = false
is_tcp_at (Some s) = is_tcp s.socket
