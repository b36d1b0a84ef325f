-- What contracts see of a UDP socket, and what its calls do to it.
use Rattle.std.specs.Prelude.{ℕ, ◌≡◌, ◌⊎◌, ⊤, List, Option, None, Some, Result, Ok, Err, Bool, true, not, ◌==◌, ◌&&◌}
use Rattle.std.specs.Prelude.{if◌then◌else◌}
use Rattle.ip_wire.specs.Address.{is_unspecified, is_multicast, same_version}
use Rattle.ip_wire.specs.IpHeader.{src_addr_of, dst_addr_of}
use Rattle.ip_wire.specs.declared.address.IpAddress.{IpAddress}
use Rattle.ip_wire.specs.declared.endpoint.IpListenEndpoint.{IpListenEndpoint}
use Rattle.ip_wire.specs.declared.repr.IpRepr.{IpRepr}
use Rattle.control_wire.specs.declared.udp.UdpRepr.{UdpRepr}
use Rattle.net_base.specs.Packets.{Packets}
use Rattle.sock_core.specs.Facts.{Facts}
use Rattle.sock_dgram.specs.Addressed as addressed
use Rattle.sock_dgram.specs.Datagrams.{emptied, send_answer_if, after_send_if, refused_send_if}
use Rattle.sock_dgram.specs.declared.udp.socket.UdpMetadata.{UdpMetadata}
use Rattle.sock_dgram.specs.declared.error.BindError.{BindError}
use Rattle.sock_dgram.specs.declared.error.BindError.TheVariants as bind_error
use Rattle.sock_dgram.specs.declared.error.SendError.{SendError}
pub use Rattle.sock_dgram.specs.Addressed.{with_rx, with_tx, received, waiting, after_bind}

-- port 0 of the endpoint where the socket is not open
abbrev pub View : Type 0
View = addressed.View IpListenEndpoint UdpMetadata

-- ---- opening and closing

abbrev pub no_endpoint : IpListenEndpoint
no_endpoint = record { addr = None; port = 0 }

abbrev pub fresh : Packets UdpMetadata → Packets UdpMetadata → View
fresh rx tx = addressed.bound_to no_endpoint rx tx

abbrev pub is_open : View → Bool
is_open v = not (v.endpoint.port == 0)

-- port zero first, then an open socket
abbrev pub bind_answer : View → IpListenEndpoint → Result (Unit {0}) BindError
bind_answer v e =
    if e.port == 0 then Err bind_error.Unaddressable
    else (if is_open v then Err bind_error.InvalidState else Ok tt)

abbrev pub closed : View → View
closed v = record v { endpoint = no_endpoint; rx_buffer = emptied v.rx_buffer; tx_buffer = emptied v.tx_buffer }

-- ---- sending

-- the source that is known before the context is asked: the address given, else the bound one
abbrev pub known_source : Option IpAddress → Option IpAddress → Option IpAddress
known_source (Some a) bound = Some a
known_source None bound = bound

-- where the source is known, it is of the destination's version
abbrev pub is_possible_source : Option IpAddress → IpAddress → Bool
is_possible_source None dst = true
is_possible_source (Some a) dst = same_version a dst

-- the socket is open, the destination has an address and a port, and the source is of its version
abbrev pub is_sendable : View → UdpMetadata → Bool
is_sendable v m =
    is_open v && (not (is_unspecified m.endpoint.addr) && (not (m.endpoint.port == 0)
    && is_possible_source (known_source m.local_address v.endpoint.addr) m.endpoint.addr))

-- a datagram of n bytes: first the addresses, then the room
abbrev pub send_answer : View → UdpMetadata → ℕ → Result (Unit {0}) SendError
send_answer v m n = send_answer_if (is_sendable v m) n v.tx_buffer

abbrev pub after_send : View → UdpMetadata → List ℕ → View
after_send v m bs = after_send_if (λ v. v.tx_buffer) with_tx (is_sendable v m) m bs v

abbrev pub refused_send : View → UdpMetadata → ℕ → View
refused_send v m n = refused_send_if (λ v. v.tx_buffer) with_tx (is_sendable v m) n v

-- ---- the filter and what is queued of an accepted datagram

-- the bound address is absent, or equal to the destination, or the destination is broadcast or multicast
abbrev pub IsAddressed : Option IpAddress → Facts → IpAddress → Type 0
IsAddressed None f dst = ⊤
IsAddressed (Some a) f dst = (a ≡ dst) ⊎ ((f.broadcast dst ≡ true) ⊎ (is_multicast dst ≡ true))

pub record Accepts (v : View) (f : Facts) (ip : IpRepr) (udp : UdpRepr) : Type 0 where
  pub port : v.endpoint.port ≡ udp.dst_port
  pub addressed : IsAddressed v.endpoint.addr f (dst_addr_of ip)

-- where it came from, and where it went to
abbrev pub metadata_of : IpRepr → UdpRepr → UdpMetadata
metadata_of ip udp = record {
  endpoint = record { addr = src_addr_of ip; port = udp.src_port };
  local_address = Some (dst_addr_of ip);
}
