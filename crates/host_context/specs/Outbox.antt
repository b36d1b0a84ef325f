-- What an outbox holds.
use Rattle.std.specs.Prelude.{ℕ, ◌≡◌, ◌+◌, ◌≤◌, ◌++◌, [], ◌∷◌, List, length, map, Vec, Option, Some, None}
use Rattle.std.specs.Global.{Global}
use Rattle.ip_wire.specs.Checksum.{is_sent}
use Rattle.ip_wire.specs.IpHeader.{next_header_of, payload_len_of}
use Rattle.ip_wire.specs.Packet.{header_octets}
use Rattle.ip_wire.specs.declared.checksum.ChecksumCapabilities.{ChecksumCapabilities}
use Rattle.ip_wire.specs.declared.protocol.IpProtocol.TheVariants as protocol
use Rattle.ip_wire.specs.declared.repr.IpRepr.{IpRepr}
use Rattle.ip_wire.specs.declared.repr.IpRepr.TheVariants as header
use Rattle.control_wire.specs.Icmp.{icmpv4_octets, icmpv6_octets, message_v4, message_v6}
use Rattle.control_wire.specs.declared.icmp.IcmpRepr.{IcmpRepr}
use Rattle.control_wire.specs.declared.icmp.IcmpRepr.TheVariants as icmp
use Rattle.control_wire.specs.Segment.{Segment, options_len, segment_header_len}

-- its packets, the oldest first
abbrev pub octets : List (Vec ℕ Global) → List (List ℕ)
octets ps = map (λ p. p.items) ps

-- the header counts the segment, and names TCP
pub record CarriesTcp (ip : IpRepr) (s : Segment) : Type 0 where
  pub options : options_len s ≤ 40
  pub counted : payload_len_of ip ≡ segment_header_len s + length s.payload
  pub protocol : next_header_of ip ≡ protocol.Tcp

-- the header counts a datagram of n payload octets, and names UDP
pub record CarriesUdp (ip : IpRepr) (n : ℕ) : Type 0 where
  pub counted : payload_len_of ip ≡ 8 + n
  pub protocol : next_header_of ip ≡ protocol.Udp

-- the packet of an ICMP message, where its version is that of the header
abbrev pub icmp_packet : ChecksumCapabilities → IpRepr → IcmpRepr → Option (List ℕ)
icmp_packet caps (header.Ipv4 h) (icmp.Ipv4 m) =
    Some (header_octets (is_sent caps.ipv4) (header.Ipv4 h) ++ icmpv4_octets caps (message_v4 m))
icmp_packet caps (header.Ipv6 h) (icmp.Ipv6 m) =
    Some (header_octets (is_sent caps.ipv4) (header.Ipv6 h)
    ++ icmpv6_octets caps h.src_addr h.dst_addr (message_v6 m))
icmp_packet caps _ _ = None

-- packets with one more behind them, if any
abbrev pub with_packet : List (List ℕ) → Option (List ℕ) → List (List ℕ)
with_packet ps None = ps
with_packet ps (Some p) = ps ++ p ∷ []
