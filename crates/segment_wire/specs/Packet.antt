-- IP packets that carry a TCP segment or a UDP datagram.
use Rattle.std.specs.Prelude.{ℕ, ◌+◌, ◌*◌, ◌/◌, ◌%◌, ◌==◌, ◌&&◌, ◌||◌, not, nat_le, Bool, if◌then◌else◌}
use Rattle.std.specs.Prelude.{List, ◌++◌, length, slice_index, Option, Some, None}
use Rattle.std.specs.Borrow.{Bor}
use Rattle.ip_wire.specs.Checksum.{is_received, is_sent}
use Rattle.ip_wire.specs.IpHeader.{dst_addr_of, next_header_of, src_addr_of}
use Rattle.ip_wire.specs.Octets.{be16_at}
use Rattle.ip_wire.specs.Packet.{header_octets, ipv4_header_len, ipv4_parsed, ipv4_payload, ipv4_total_len}
use Rattle.ip_wire.specs.Packet.{ipv6_parsed, ipv6_payload}
use Rattle.ip_wire.specs.Protocol.{number_of, version_of_packet}
use Rattle.ip_wire.specs.declared.checksum.ChecksumCapabilities.{ChecksumCapabilities}
use Rattle.ip_wire.specs.declared.protocol.IpVersion.{IpVersion}
use Rattle.ip_wire.specs.declared.protocol.IpVersion.TheVariants as version
use Rattle.ip_wire.specs.declared.repr.IpRepr.{IpRepr}
use Rattle.ip_wire.specs.declared.repr.IpRepr.TheVariants as header
use Rattle.ip_wire.specs.declared.repr.Ipv4Repr.{Ipv4Repr}
use Rattle.ip_wire.specs.declared.repr.Ipv6Repr.{Ipv6Repr}
use Rattle.control_wire.specs.Segment.{Segment, segment_of}
use Rattle.control_wire.specs.declared.tcp.TcpRepr.{TcpRepr}
use Rattle.control_wire.specs.declared.udp.UdpRepr.{UdpRepr}
use Rattle.segment_wire.specs.Tcp.{tcp_octets, tcp_parsed}
use Rattle.segment_wire.specs.Udp.{Datagram, udp_octets, udp_parsed}

-- a header and a segment behind it
abbrev pub tcp_packet : ChecksumCapabilities → IpRepr → Segment → List ℕ
tcp_packet caps ip s =
    header_octets (is_sent caps.ipv4) ip ++ tcp_octets (is_sent caps.tcp) (src_addr_of ip) (dst_addr_of ip) s

abbrev pub udp_packet : ChecksumCapabilities → IpRepr → UdpRepr → List ℕ → List ℕ
udp_packet caps ip u payload =
    header_octets (is_sent caps.ipv4) ip ++ udp_octets (is_sent caps.udp) (src_addr_of ip) (dst_addr_of ip) u payload

-- a header and the octets that it carries
pub record Carried : Type 0 where
  pub ip : IpRepr
  pub octets : List ℕ

abbrev pub carried_of : IpRepr × Bor (List ℕ) → Carried
carried_of found = record { ip = found.0; octets = found.1.now }

abbrev pub whole_v4_of : Ipv4Repr × Bor (List ℕ) → Carried
whole_v4_of found = record { ip = header.Ipv4 found.0; octets = found.1.now }

abbrev pub whole_v6_of : Ipv6Repr × Bor (List ℕ) → Carried
whole_v6_of found = record { ip = header.Ipv6 found.0; octets = found.1.now }

-- MF, the lowest of the three flags: more fragments follow (RFC 791, section 3.1)
abbrev pub more_follow : List ℕ → Bool
more_follow octets = slice_index octets 6 / 32 % 2 == 1

-- where the fragment's payload stands in that of the whole packet, in units of eight octets: 13 bits behind the flags
abbrev pub fragment_offset : List ℕ → ℕ
fragment_offset octets = 256 * (slice_index octets 6 % 32) + slice_index octets 7

-- a packet whose payload is a piece of another's: the first has MF alone, the last an offset alone, the others both
abbrev pub is_fragment : List ℕ → Bool
is_fragment octets = more_follow octets || not (fragment_offset octets == 0)

-- the lengths that a packet states of itself fit: `IsIpv4`, `IsIpv6`
abbrev pub fits_v4 : List ℕ → Bool
fits_v4 octets =
    nat_le 20 (ipv4_header_len octets) && (nat_le (ipv4_header_len octets) (ipv4_total_len octets)
    && nat_le (ipv4_total_len octets) (length octets))

-- and it is no fragment; of IPv6 a fragment has another protocol, that of the fragment header
abbrev pub is_whole_v4 : List ℕ → Bool
is_whole_v4 octets = fits_v4 octets && not (is_fragment octets)

abbrev pub is_whole_v6 : List ℕ → Bool
is_whole_v6 octets = nat_le 40 (length octets) && nat_le (40 + be16_at octets 4) (length octets)

abbrev pub carried_v4 : List ℕ → Option Ipv4Repr → Option Carried
carried_v4 octets None = None
carried_v4 octets (Some h) = Some (record { ip = header.Ipv4 h; octets = ipv4_payload octets })

abbrev pub carried_v6 : List ℕ → Option Ipv6Repr → Option Carried
carried_v6 octets None = None
carried_v6 octets (Some h) = Some (record { ip = header.Ipv6 h; octets = ipv6_payload octets })

abbrev pub carried_as : Option IpVersion → Bool → List ℕ → Option Carried
carried_as None tested octets = None
carried_as (Some version.Ipv4) tested octets =
    if is_whole_v4 octets then carried_v4 octets (ipv4_parsed tested octets) else None
carried_as (Some version.Ipv6) tested octets =
    if is_whole_v6 octets then carried_v6 octets (ipv6_parsed octets) else None

-- the header of a whole packet of either version, and what stands behind it
unfoldable pub carried : Bool → List ℕ → Option Carried
carried tested octets = carried_as (version_of_packet octets) tested octets

-- what a packet carries of the protocol with this number
abbrev pub carried_if : ℕ → Option Carried → Option Carried
carried_if number None = None
carried_if number (Some c) = if number_of (next_header_of c.ip) == number then Some c else None

-- a header and a segment by value
pub record TcpPacket : Type 0 where
  pub ip : IpRepr
  pub segment : Segment

abbrev pub tcp_packet_of : IpRepr × TcpRepr → TcpPacket
tcp_packet_of found = record { ip = found.0; segment = segment_of found.1 }

pub record UdpPacket : Type 0 where
  pub ip : IpRepr
  pub datagram : Datagram

abbrev pub udp_packet_of : IpRepr × UdpRepr × Bor (List ℕ) → UdpPacket
udp_packet_of found = record { ip = found.0; datagram = record { header = found.1; payload = found.2.now } }

abbrev pub with_segment : IpRepr → Option Segment → Option TcpPacket
with_segment ip None = None
with_segment ip (Some s) = Some (record { ip = ip; segment = s })

abbrev pub with_datagram : IpRepr → Option Datagram → Option UdpPacket
with_datagram ip None = None
with_datagram ip (Some d) = Some (record { ip = ip; datagram = d })

abbrev pub tcp_of : Bool → Option Carried → Option TcpPacket
tcp_of tested None = None
tcp_of tested (Some c) = with_segment c.ip (tcp_parsed tested (src_addr_of c.ip) (dst_addr_of c.ip) c.octets)

abbrev pub udp_of : Bool → Option Carried → Option UdpPacket
udp_of tested None = None
udp_of tested (Some c) = with_datagram c.ip (udp_parsed tested (src_addr_of c.ip) (dst_addr_of c.ip) c.octets)

-- a header whose protocol is TCP (6) or UDP (17), and what it carries
abbrev pub tcp_packet_parsed : ChecksumCapabilities → List ℕ → Option TcpPacket
tcp_packet_parsed caps octets = tcp_of (is_received caps.tcp) (carried_if 6 (carried (is_received caps.ipv4) octets))

abbrev pub udp_packet_parsed : ChecksumCapabilities → List ℕ → Option UdpPacket
udp_packet_parsed caps octets = udp_of (is_received caps.udp) (carried_if 17 (carried (is_received caps.ipv4) octets))
