-- A UDP socket in the memory of C.
use Rattle.std.specs.Prelude.{ℕ, ℤ, ◌≡◌, ◌+◌, ◌≤◌, ◌==◌, nat_le, Bool, List, ◌++◌, length, drop}
use Rattle.std.specs.Prelude.{Option, Some, None, Result, Ok, Err, if◌then◌else◌}
use Rattle.ip_wire.specs.Checksum.{all_checksums}
use Rattle.ip_wire.specs.IpHeader.{next_header_of, payload_len_of}
use Rattle.ip_wire.specs.declared.address.IpAddress.{IpAddress}
use Rattle.ip_wire.specs.declared.address.IpAddress.TheVariants as address
use Rattle.ip_wire.specs.declared.checksum.Checksum.TheVariants as checksum
use Rattle.ip_wire.specs.declared.protocol.IpProtocol.TheVariants as protocol
use Rattle.ip_wire.specs.declared.repr.IpRepr.{IpRepr}
use Rattle.segment_wire.specs.Packet.{UdpPacket, udp_packet, udp_packet_parsed}
use Rattle.sock_core.specs.Facts.{Facts}
use Rattle.sock_dgram.specs.Datagrams.{stored}
use Rattle.sock_dgram.specs.Udp.{View, Accepts, metadata_of}
use Rattle.sock_dgram.specs.UdpDispatch.{Outgoing, outgoing}
use Rattle.sock_dgram.specs.declared.error.RecvError.{RecvError}
use Rattle.sock_dgram.specs.declared.udp.socket.UdpMetadata.{UdpMetadata}
use Rattle.smoltcp_c.specs.Heard.{AcceptsIf, Hears}
use Rattle.smoltcp_c.specs.Numbers.{address_in, address_or_none_told, endpoint_in, endpoint_told}
use Rattle.smoltcp_c.specs.Sends.{DispatchesInto, DispatchesOrDrops, Puts}
use Rattle.smoltcp_c.specs.Wire.{packet_len}
use Rattle.smoltcp_c.specs.declared.endpoints.Address.{Address}
use Rattle.smoltcp_c.specs.declared.handles.UdpHandle.{UdpHandle}
use Rattle.smoltcp_c.specs.declared.udp_numbers.UdpNumbers.{UdpNumbers}
use Rattle.smoltcp_c.specs.declared.wire.Full.{Full}
use Rattle.smoltcp_c.specs.declared.wire.Wire.{Wire}

-- the same handle, at the same place, with another socket
abbrev pub with_socket : UdpHandle → View → UdpHandle
with_socket h v = record h { socket = v }

-- ---- metadata

-- without an address where the version is 0
abbrev pub address_or_none : Address → Option IpAddress
address_or_none n = if n.version == 0 then None else Some (address_in n)

abbrev pub metadata_in : UdpNumbers → UdpMetadata
metadata_in n = record { endpoint = endpoint_in n.endpoint; local_address = address_or_none n.local_address }

-- the numbers for it: the bytes of the other version are 0
abbrev pub metadata_told : UdpMetadata → UdpNumbers
metadata_told m =
    record { endpoint = endpoint_told m.endpoint; local_address = address_or_none_told m.local_address }

-- of what a call that copies a datagram answers, in place of what stood there
abbrev pub metadata_written : Result (ℕ × UdpMetadata) RecvError → UdpNumbers → UdpNumbers
metadata_written (Ok r) meta = metadata_told r.1
metadata_written (Err e) meta = meta

-- ---- send

-- how many bytes of payload a packet of 65535 bytes to this address has
abbrev pub longest_payload : IpAddress → ℕ
longest_payload (address.Ipv4 a) = 65507
longest_payload (address.Ipv6 a) = 65487

-- a datagram of n bytes fits a packet
abbrev pub is_packet : UdpMetadata → ℕ → Bool
is_packet m n = nat_le n (longest_payload m.endpoint.addr)

-- ---- process

-- the datagram that a packet carries, if it is whole and each checksum verifies
unfoldable pub carried_datagram : List ℕ → Option UdpPacket
carried_datagram packet = udp_packet_parsed (all_checksums checksum.Both) packet

-- what a socket that is told so accepts
abbrev pub AcceptsDatagram : Facts → View → UdpPacket → Type 0
AcceptsDatagram f v p = Accepts v f p.ip p.datagram.header

-- the socket with the datagram behind its receive queue, where it finds room
abbrev pub queued_of : UdpPacket → View → View
queued_of p v = record v { rx_buffer = stored (metadata_of p.ip p.datagram.header) p.datagram.payload v.rx_buffer }

abbrev pub IsFor : Facts → View → List ℕ → Type 0
IsFor f v packet = AcceptsIf (AcceptsDatagram f) v (carried_datagram packet)

abbrev pub HearsDatagram : Facts → View → UdpPacket → ℤ → View → Type 0
HearsDatagram f = Hears (AcceptsDatagram f) queued_of

-- ---- dispatch

-- the packet, all checksums computed, and how many bytes it has
abbrev pub datagram_packet : Outgoing → List ℕ
datagram_packet o = udp_packet (all_checksums checksum.Both) o.ip o.udp o.payload

abbrev pub datagram_len : Outgoing → ℕ
datagram_len o = packet_len o.ip

abbrev pub with_datagram : Outgoing → List ℕ → List ℕ
with_datagram o out = datagram_packet o ++ drop (datagram_len o) out

-- the header counts the datagram, and both fit a packet
pub record CountsDatagram (ip : IpRepr) (payload : List ℕ) : Type 0 where
  pub octets : payload_len_of ip ≡ 8 + length payload
  pub total : packet_len ip ≤ 65535
  pub protocol : next_header_of ip ≡ protocol.Udp

abbrev pub WritesDatagram : Outgoing → Wire → Result (Unit {0}) Full → Wire → Type 0
WritesDatagram o old result new =
    Puts (CountsDatagram o.ip o.payload) (datagram_len o) (datagram_packet o) old result new

-- the first datagram's packet, where it has a source
abbrev pub EmitsDatagram : Facts → View → List ℕ → ℤ → View → List ℕ → Type 0
EmitsDatagram f v = DispatchesInto datagram_len datagram_packet (outgoing v f) v

abbrev pub DispatchesDatagram : Facts → View → List ℕ → ℤ → View → List ℕ → Type 0
DispatchesDatagram f v = DispatchesOrDrops datagram_len datagram_packet (outgoing v f) v
