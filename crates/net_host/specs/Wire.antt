-- Packets in a buffer.
use Rattle.std.specs.Prelude.{ℕ, ◌+◌, ◌≡◌, ◌≤◌, List, ◌++◌, drop, length, max, Option, Some, None}
use Rattle.ip_wire.specs.Checksum.{is_sent}
use Rattle.ip_wire.specs.Packet.{header_octets}
use Rattle.ip_wire.specs.IpHeader.{header_len_of, next_header_of, payload_len_of}
use Rattle.ip_wire.specs.declared.checksum.ChecksumCapabilities.{ChecksumCapabilities}
use Rattle.ip_wire.specs.declared.protocol.IpProtocol.TheVariants as protocol
use Rattle.ip_wire.specs.declared.repr.IpRepr.{IpRepr}
use Rattle.ip_wire.specs.declared.repr.IpRepr.TheVariants as header
use Rattle.control_wire.specs.Segment.{Segment, segment_header_len}
use Rattle.control_wire.specs.declared.udp.UdpRepr.{UdpRepr}
use Rattle.segment_wire.specs.Packet.{tcp_packet, udp_packet}

-- the header counts the segment
pub record IsCounted (ip : IpRepr) (s : Segment) : Type 0 where
  pub header : segment_header_len s ≤ 60
  pub octets : payload_len_of ip ≡ segment_header_len s + length s.payload
  pub protocol : next_header_of ip ≡ protocol.Tcp

abbrev pub packet_len : IpRepr → ℕ
packet_len ip = header_len_of ip + payload_len_of ip

-- the largest packet with this header, of an MTU: over IPv6 less than 576 counts as that
abbrev pub largest : IpRepr → ℕ → ℕ
largest (header.Ipv4 h) mtu = mtu
largest (header.Ipv6 h) mtu = max mtu 576

-- a buffer with the packet of a segment at its beginning
abbrev pub with_segment : ChecksumCapabilities → IpRepr → Segment → List ℕ → List ℕ
with_segment caps ip s out = tcp_packet caps ip s ++ drop (packet_len ip) out

-- how long the packet of a reply is, if any
abbrev pub reply_len : Option (IpRepr × Segment) → ℕ
reply_len None = 0
reply_len (Some r) = packet_len r.0

-- a buffer with the packet of a reply, if any, at its beginning
abbrev pub with_reply : ChecksumCapabilities → Option (IpRepr × Segment) → List ℕ → List ℕ
with_reply caps None out = out
with_reply caps (Some r) out = with_segment caps r.0 r.1 out

-- ---- datagrams

-- the header counts the datagram
pub record CountsDatagram (ip : IpRepr) (payload : List ℕ) : Type 0 where
  pub octets : payload_len_of ip ≡ 8 + length payload
  pub protocol : next_header_of ip ≡ protocol.Udp

-- a buffer with the packet of a datagram at its beginning
abbrev pub with_datagram : ChecksumCapabilities → IpRepr → UdpRepr → List ℕ → List ℕ → List ℕ
with_datagram caps ip u payload out = udp_packet caps ip u payload ++ drop (packet_len ip) out

-- ---- any payload

abbrev pub raw_len : IpRepr → List ℕ → ℕ
raw_len ip payload = header_len_of ip + length payload

-- a buffer with a header and this payload at its beginning
abbrev pub with_raw : ChecksumCapabilities → IpRepr → List ℕ → List ℕ → List ℕ
with_raw caps ip payload out = (header_octets (is_sent caps.ipv4) ip ++ payload) ++ drop (raw_len ip payload) out
