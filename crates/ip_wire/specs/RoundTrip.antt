-- Headers whose octets give them back.
use Rattle.std.specs.Prelude.{ℕ, ◌+◌, ◌<◌, ◌^◌, ◌≡◌, Bool, List, length, Some}
use Rattle.ip_wire.specs.Octets.{IsOctets}
use Rattle.ip_wire.specs.Packet.{IsIpv4, IsIpv6, ipv4_parsed, ipv4_payload, ipv6_parsed, ipv6_payload}
use Rattle.ip_wire.specs.Protocol.{number_of, protocol_of}
use Rattle.ip_wire.specs.declared.protocol.IpProtocol.{IpProtocol}
use Rattle.ip_wire.specs.declared.repr.Ipv4Repr.{Ipv4Repr}
use Rattle.ip_wire.specs.declared.repr.Ipv6Repr.{Ipv6Repr}

-- the name of its number, so that a number with a name is not written as Unknown
pub record IsNamed (p : IpProtocol) : Type 0 where
  pub octet : number_of p < 256
  pub name : protocol_of (number_of p) ≡ p

-- a header with the addresses of octets, whose lengths are not cut
pub record IsIpv4Header (h : Ipv4Repr) : Type 0 where
  pub src : length h.src_addr.0 ≡ 4
  pub src_octets : IsOctets h.src_addr.0
  pub dst : length h.dst_addr.0 ≡ 4
  pub dst_octets : IsOctets h.dst_addr.0
  pub protocol : IsNamed h.next_header
  pub total : 20 + h.payload_len < 2 ^ 16
  pub hops : h.hop_limit < 256

pub record IsIpv6Header (h : Ipv6Repr) : Type 0 where
  pub src : length h.src_addr.0 ≡ 16
  pub src_octets : IsOctets h.src_addr.0
  pub dst : length h.dst_addr.0 ≡ 16
  pub dst_octets : IsOctets h.dst_addr.0
  pub protocol : IsNamed h.next_header
  pub payload : h.payload_len < 2 ^ 16
  pub hops : h.hop_limit < 256

-- a packet is whole, and its header and its payload are these
pub record ReadsIpv4 (tested : Bool) (packet : List ℕ) (h : Ipv4Repr) (bytes : List ℕ) : Type 0 where
  pub whole : IsIpv4 packet
  pub header : ipv4_parsed tested packet ≡ Some h
  pub payload : ipv4_payload packet ≡ bytes

pub record ReadsIpv6 (packet : List ℕ) (h : Ipv6Repr) (bytes : List ℕ) : Type 0 where
  pub whole : IsIpv6 packet
  pub header : ipv6_parsed packet ≡ Some h
  pub payload : ipv6_payload packet ≡ bytes
