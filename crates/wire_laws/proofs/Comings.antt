-- What is read of a packet may come to a socket.
use Rattle.std.proofs.Common.{◌≡◌, ℕ, zero, suc, ◌+◌, ◌-◌, ◌<◌, ◌≤◌, List, Bool, true, false, Option, Some, None, refl, sym, subst, length, take, drop, not, ◌&&◌, ◌||◌, arith, length-take, length-drop}
use Rattle.std.specs.Prelude.{◌==◌, if◌then◌else◌, slice_index, Result, Ok, Err, IfOk}
use Rattle.std.proofs.lemmas.Option.{none-some, same_Some}
use Rattle.ip_wire.specs.Checksum.{is_received}
use Rattle.ip_wire.specs.IpHeader.{next_header_of, src_addr_of, dst_addr_of}
use Rattle.ip_wire.specs.Octets.{be16_at}
use Rattle.ip_wire.specs.Packet.{ipv4_header_len, ipv4_parsed, ipv4_total_len, ipv6_parsed}
use Rattle.ip_wire.specs.Protocol.{number_of, version_of_packet}
use Rattle.ip_wire.specs.declared.address.IpAddress.{IpAddress}
use Rattle.ip_wire.specs.declared.checksum.ChecksumCapabilities.{ChecksumCapabilities}
use Rattle.ip_wire.specs.declared.malformed.Error.{Error}
use Rattle.ip_wire.specs.declared.protocol.IpVersion.{IpVersion}
use Rattle.ip_wire.specs.declared.protocol.IpVersion.TheVariants as version
use Rattle.ip_wire.specs.declared.repr.IpRepr.{IpRepr}
use Rattle.ip_wire.specs.declared.repr.Ipv4Repr.{Ipv4Repr}
use Rattle.ip_wire.specs.declared.repr.Ipv6Repr.{Ipv6Repr}
use Rattle.control_wire.specs.Segment.{Segment, segment_of}
use Rattle.control_wire.specs.Source.{tcp_header_len, sum_holds}
use Rattle.control_wire.specs.declared.tcp.TcpRepr.{TcpRepr}
use Rattle.segment_wire.specs.Options.{no_options, options_read}
use Rattle.segment_wire.specs.Packet.{Carried, carried, carried_as, carried_v4, carried_v6, carried_if, is_whole_v4, is_whole_v6, tcp_of, tcp_packet_of, tcp_packet_parsed, with_segment, TcpPacket}
use Rattle.segment_wire.specs.Tcp.{is_head, options_of, read_as, segment_at, segment_if, tcp_parsed}
use Rattle.segment_wire.specs.declared.options.TcpOptions.{TcpOptions}
use Rattle.wire_laws.specs.Survival.{MayCome}

conj : (a b : Bool) → (a && b) ≡ true → (a ≡ true) × (b ≡ true)
conj true true e = (refl, refl)
conj true false e = absurd cc
conj false b e = absurd cc

there : (n : ℕ) → not (n == 0) ≡ true → 0 < n
there zero e = absurd cc
there (suc n) e = omega arith

head_ports : (octets : List ℕ) → is_head octets ≡ true → (0 < be16_at octets 0) × (0 < be16_at octets 2)
unfolding is_head
head_ports octets e =
    let h0 = conj _ _ e in
    let h1 = conj _ _ h0.0 in
    let h2 = conj _ _ h1.0 in
    (there (be16_at octets 0) h2.1, there (be16_at octets 2) h1.1)

Read : Option Segment → Type 0
Read o = (s : Segment) → o ≡ Some s → MayCome s

module _ (octets : List ℕ) (small : length octets ≤ 65535) where
  segment_read : (o : Option TcpOptions) → is_head octets ≡ true → Read (segment_if octets o)
  unfolding Read
  segment_read None e s x = absurd (none-some s x)
  segment_read (Some o) e s x =
      let p = head_ports octets e in
      let n : length (drop (tcp_header_len octets) octets) ≤ 65535 = omega (arith, small, length-drop (tcp_header_len octets) octets) in
      subst MayCome (same_Some (segment_at octets o) s x) (record { ports = record { src_port = p.0; dst_port = p.1 }; small = n })

  choice : (b d : Bool) (o : Option TcpOptions) → is_head octets ≡ b → Read (if b && d then segment_if octets o else None)
  unfolding Read
  choice true true o e s x = segment_read o e s x
  choice true false o e s x = absurd (none-some s x)
  choice false d o e s x = absurd (none-some s x)

  parsed_read : (tested : Bool) (src dst : IpAddress) → Read (tcp_parsed tested src dst octets)
  parsed_read tested src dst = choice (is_head octets) (not tested || sum_holds src dst 6 octets) (options_read 0 no_options (options_of octets)) refl

-- ---- what a packet carries

IsSmall : Option Carried → Type 0
IsSmall o = (c : Carried) → o ≡ Some c → length c.octets ≤ 65535

module _ (packet : List ℕ) (fits : (i : ℕ) → slice_index packet i < 256) where
  word : (i : ℕ) → be16_at packet i ≤ 65535
  word i = omega (arith, fits i, fits (i + 1))

  v4_small : (b : Bool) (h : Option Ipv4Repr) → IsSmall (if b then carried_v4 packet h else None)
  unfolding IsSmall
  v4_small false h c e = absurd (none-some c e)
  v4_small true None c e = absurd (none-some c e)
  v4_small true (Some h) c e =
      let n : length (take (ipv4_total_len packet - ipv4_header_len packet) (drop (ipv4_header_len packet) packet)) ≤ 65535 = omega (arith, length-take (ipv4_total_len packet - ipv4_header_len packet) (drop (ipv4_header_len packet) packet), word 2) in
      subst (λ (x : Carried). length x.octets ≤ 65535) (same_Some _ c e) n

  v6_small : (b : Bool) (h : Option Ipv6Repr) → IsSmall (if b then carried_v6 packet h else None)
  unfolding IsSmall
  v6_small false h c e = absurd (none-some c e)
  v6_small true None c e = absurd (none-some c e)
  v6_small true (Some h) c e =
      let n : length (take (be16_at packet 4) (drop 40 packet)) ≤ 65535 = omega (arith, length-take (be16_at packet 4) (drop 40 packet), word 4) in
      subst (λ (x : Carried). length x.octets ≤ 65535) (same_Some _ c e) n

  as_small : (o : Option IpVersion) (tested : Bool) → IsSmall (carried_as o tested packet)
  unfolding IsSmall
  as_small None tested = λ c e. absurd (none-some c e)
  as_small (Some version.Ipv4) tested = v4_small (is_whole_v4 packet) (ipv4_parsed tested packet)
  as_small (Some version.Ipv6) tested = v6_small (is_whole_v6 packet) (ipv6_parsed packet)

  carried_small : (tested : Bool) → IsSmall (carried tested packet)
  unfolding carried
  carried_small tested = as_small (version_of_packet packet) tested

if_small : (b : Bool) (c : Carried) → length c.octets ≤ 65535 → IsSmall (if b then Some c else None)
unfolding IsSmall
if_small true c n d e = subst (λ (x : Carried). length x.octets ≤ 65535) (same_Some c d e) n
if_small false c n d e = absurd (none-some d e)

of_protocol : (number : ℕ) (o : Option Carried) → IsSmall o → IsSmall (carried_if number o)
unfolding IsSmall
of_protocol number None h = h
of_protocol number (Some c) h = if_small (number_of (next_header_of c.ip) == number) c (h c refl)

PacketRead : Option TcpPacket → Type 0
PacketRead o = (p : TcpPacket) → o ≡ Some p → MayCome p.segment

with_read : (ip : IpRepr) (o : Option Segment) → Read o → PacketRead (with_segment ip o)
unfolding Read PacketRead
with_read ip None h p e = absurd (none-some p e)
with_read ip (Some s) h p e = subst (λ (x : TcpPacket). MayCome x.segment) (same_Some _ p e) (h s refl)

of_carried : (tested : Bool) (o : Option Carried) → IsSmall o → PacketRead (tcp_of tested o)
unfolding IsSmall PacketRead
of_carried tested None h p e = absurd (none-some p e)
of_carried tested (Some c) h p e = with_read c.ip (tcp_parsed tested (src_addr_of c.ip) (dst_addr_of c.ip) c.octets) (parsed_read c.octets (h c refl) tested (src_addr_of c.ip) (dst_addr_of c.ip)) p e

pub comes : (caps : ChecksumCapabilities) (packet : List ℕ) (r : Result (IpRepr × TcpRepr) Error) → ((i : ℕ) → slice_index packet i < 256) → read_as tcp_packet_of r ≡ tcp_packet_parsed caps packet → IfOk r (λ p. MayCome (segment_of p.1))
unfolding PacketRead
comes caps packet (Ok p) fits e = of_carried (is_received caps.tcp) (carried_if 6 (carried (is_received caps.ipv4) packet)) (of_protocol 6 (carried (is_received caps.ipv4) packet) (carried_small packet fits (is_received caps.ipv4))) (tcp_packet_of p) (sym e)
comes caps packet (Err x) fits e = tt
