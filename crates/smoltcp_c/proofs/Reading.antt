-- What a packet carries has at most 65535 bytes, as the lengths that it states of itself have 16 bits.
use Rattle.std.proofs.Common.{◌≡◌, ℕ, ◌+◌, ◌-◌, ◌<◌, ◌≤◌, List, Bool, true, false, Option, Some, None, sym, subst, length, drop, not, ◌&&◌, ◌||◌, arith, length-take, length-drop}
use Rattle.std.specs.Prelude.{◌==◌, if◌then◌else◌, slice_index, IfSome, IsTrue}
use Rattle.ip_wire.specs.Checksum.{is_received}
use Rattle.ip_wire.specs.IpHeader.{next_header_of, src_addr_of, dst_addr_of}
use Rattle.ip_wire.specs.Octets.{be16_at}
use Rattle.ip_wire.specs.Packet.{ipv4_header_len, ipv4_parsed, ipv4_total_len, ipv6_parsed}
use Rattle.ip_wire.specs.Protocol.{number_of, version_of_packet}
use Rattle.ip_wire.specs.declared.checksum.ChecksumCapabilities.{ChecksumCapabilities}
use Rattle.ip_wire.specs.declared.protocol.IpVersion.{IpVersion}
use Rattle.ip_wire.specs.declared.protocol.IpVersion.TheVariants as version
use Rattle.ip_wire.specs.declared.repr.IpRepr.{IpRepr}
use Rattle.ip_wire.specs.declared.repr.Ipv4Repr.{Ipv4Repr}
use Rattle.ip_wire.specs.declared.repr.Ipv6Repr.{Ipv6Repr}
use Rattle.control_wire.specs.Segment.{Segment}
use Rattle.control_wire.specs.Source.{tcp_header_len, sum_holds}
use Rattle.segment_wire.specs.Options.{no_options, options_read}
use Rattle.segment_wire.specs.Packet.{Carried, carried, carried_as, carried_v4, carried_v6, carried_if, is_whole_v4, is_whole_v6, tcp_of, tcp_packet_parsed, with_segment, TcpPacket}
use Rattle.segment_wire.specs.Tcp.{filled, is_head, options_of, segment_if, tcp_parsed}
use Rattle.segment_wire.specs.declared.options.TcpOptions.{TcpOptions}

abbrev Short : Option TcpPacket → Type 0
Short o = IfSome o (λ p. length p.segment.payload ≤ 65535)

abbrev ShortSegment : Option Segment → Type 0
ShortSegment o = IfSome o (λ s. length s.payload ≤ 65535)

abbrev Small : Option Carried → Type 0
Small o = IfSome o (λ c. length c.octets ≤ 65535)

segment_short : (octets : List ℕ) → length octets ≤ 65535 → (b : Bool) (o : Option TcpOptions) → ShortSegment (if b then segment_if octets o else None)
segment_short octets small true (Some o) = omega (arith, small, length-drop (tcp_header_len octets) octets)
segment_short octets small true None = tt
segment_short octets small false o = tt

with_short : (ip : IpRepr) (o : Option Segment) → ShortSegment o → Short (with_segment ip o)
with_short ip None h = tt
with_short ip (Some s) h = h

tcp_short : (tested : Bool) (o : Option Carried) → Small o → Short (tcp_of tested o)
tcp_short tested None h = tt
tcp_short tested (Some c) h = with_short c.ip (tcp_parsed tested (src_addr_of c.ip) (dst_addr_of c.ip) c.octets) (segment_short c.octets h (is_head c.octets && (not tested || sum_holds (src_addr_of c.ip) (dst_addr_of c.ip) 6 c.octets)) (options_read 0 no_options (options_of c.octets)))

kept : (b : Bool) (c : Carried) → length c.octets ≤ 65535 → Small (if b then Some c else None)
kept true c h = h
kept false c h = tt

if_small : (number : ℕ) (o : Option Carried) → Small o → Small (carried_if number o)
if_small number None h = tt
if_small number (Some c) h = kept (number_of (next_header_of c.ip) == number) c h

module _ (packet : List ℕ) (fits : (i : ℕ) → slice_index packet i < 256) where
  word : (i : ℕ) → be16_at packet i ≤ 65535
  word i = omega (arith, fits i, fits (i + 1))

  v4_small : (b : Bool) (h : Option Ipv4Repr) → Small (if b then carried_v4 packet h else None)
  v4_small false h = tt
  v4_small true None = tt
  v4_small true (Some h) = omega (arith, length-take (ipv4_total_len packet - ipv4_header_len packet) (drop (ipv4_header_len packet) packet), word 2)

  v6_small : (b : Bool) (h : Option Ipv6Repr) → Small (if b then carried_v6 packet h else None)
  v6_small false h = tt
  v6_small true None = tt
  v6_small true (Some h) = omega (arith, length-take (be16_at packet 4) (drop 40 packet), word 4)

  as_small : (o : Option IpVersion) (tested : Bool) → Small (carried_as o tested packet)
  as_small None tested = tt
  as_small (Some version.Ipv4) tested = v4_small (is_whole_v4 packet) (ipv4_parsed tested packet)
  as_small (Some version.Ipv6) tested = v6_small (is_whole_v6 packet) (ipv6_parsed packet)

  carried_small : (tested : Bool) → Small (carried tested packet)
  unfolding carried
  carried_small tested = as_small (version_of_packet packet) tested

  read_short : (caps : ChecksumCapabilities) → Short (tcp_packet_parsed caps packet)
  read_short caps = tcp_short (is_received caps.tcp) (carried_if 6 (carried (is_received caps.ipv4) packet)) (if_small 6 (carried (is_received caps.ipv4) packet) (carried_small (is_received caps.ipv4)))

  pub filled_short : (caps : ChecksumCapabilities) (ip : IpRepr) (s : Segment) (b : Bool) → with_segment ip (filled b s) ≡ tcp_packet_parsed caps packet → IsTrue b → length s.payload ≤ 65535
  filled_short caps ip s true e h = subst Short (sym e) (read_short caps)
  filled_short caps ip s false e h = absurd (cc h)
