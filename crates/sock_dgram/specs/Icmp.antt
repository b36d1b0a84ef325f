-- What contracts see of an ICMP socket, and what its calls do to it.
use Rattle.std.specs.Prelude.{ℕ, List, Result, Ok, Err, Bool, true, false, not, ◌==◌, if◌then◌else◌}
use Rattle.ip_wire.specs.Address.{is_unspecified}
use Rattle.ip_wire.specs.declared.address.IpAddress.{IpAddress}
use Rattle.net_base.specs.Packets.{Packets}
use Rattle.sock_dgram.specs.Addressed as addressed
use Rattle.sock_dgram.specs.Datagrams.{send_answer_if, after_send_if, refused_send_if}
use Rattle.sock_dgram.specs.declared.error.BindError.{BindError}
use Rattle.sock_dgram.specs.declared.error.BindError.TheVariants as bind_error
use Rattle.sock_dgram.specs.declared.error.SendError.{SendError}
use Rattle.sock_dgram.specs.declared.icmp.endpoint.Endpoint.{Endpoint}
use Rattle.sock_dgram.specs.declared.icmp.endpoint.Endpoint.TheVariants as endpoint
pub use Rattle.sock_dgram.specs.Addressed.{with_rx, with_tx, received, waiting, after_bind}

-- `Unspecified` as the endpoint where the socket is not open
abbrev pub View : Type 0
View = addressed.View Endpoint IpAddress

abbrev pub fresh : Packets IpAddress → Packets IpAddress → View
fresh rx tx = addressed.bound_to endpoint.Unspecified rx tx

-- ---- opening

abbrev pub is_specified : Endpoint → Bool
is_specified endpoint.Unspecified = false
is_specified (endpoint.Ident n) = true
is_specified (endpoint.Tcp e) = not (e.port == 0)
is_specified (endpoint.Udp e) = not (e.port == 0)

abbrev pub is_bound : Endpoint → Bool
is_bound endpoint.Unspecified = false
is_bound (endpoint.Ident n) = true
is_bound (endpoint.Tcp e) = true
is_bound (endpoint.Udp e) = true

abbrev pub is_open : View → Bool
is_open v = is_bound v.endpoint

-- what cannot be bound to first, then an open socket
abbrev pub bind_answer : View → Endpoint → Result (Unit {0}) BindError
bind_answer v e =
    if is_specified e then (if is_open v then Err bind_error.InvalidState else Ok tt)
    else Err bind_error.Unaddressable

-- ---- sending

-- a message of n bytes: first the destination, then the room
abbrev pub send_answer : View → IpAddress → ℕ → Result (Unit {0}) SendError
send_answer v dst n = send_answer_if (not (is_unspecified dst)) n v.tx_buffer

abbrev pub after_send : View → IpAddress → List ℕ → View
after_send v dst bs = after_send_if (λ v. v.tx_buffer) with_tx (not (is_unspecified dst)) dst bs v

abbrev pub refused_send : View → IpAddress → ℕ → View
refused_send v dst n = refused_send_if (λ v. v.tx_buffer) with_tx (not (is_unspecified dst)) n v
