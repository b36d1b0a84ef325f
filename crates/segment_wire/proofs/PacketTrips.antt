-- Packets are read as they were written.
use Rattle.std.proofs.Common.{ℕ, ◌+◌, ◌≤◌, ◌&&◌, Bool, true, List, ◌++◌, ◌≡◌, length, refl, ap, sym, ◌∙◌, arith}
use Rattle.std.specs.Prelude.{Some, None, ◌==◌, nat_le, not, if◌then◌else◌}
use Rattle.std.proofs.lemmas.Bool.Decides.{nat_tests}
use Rattle.std.proofs.lemmas.List.{append_assoc}
use Rattle.ip_wire.specs.Address.{octets_of}
use Rattle.ip_wire.specs.Checksum.{is_received, is_sent}
use Rattle.ip_wire.specs.IpHeader.{dst_addr_of, next_header_of, payload_len_of, src_addr_of}
use Rattle.ip_wire.specs.Octets.{IsOctets, be16_at}
use Rattle.ip_wire.specs.Packet.{IsIpv4, IsIpv6, header_octets, ipv4_header_len, ipv4_octets, ipv4_parsed, ipv4_total_len, ipv6_octets, ipv6_parsed}
use Rattle.ip_wire.specs.Protocol.{number_of}
use Rattle.ip_wire.specs.RoundTrip.{IsIpv4Header, IsIpv6Header, ReadsIpv4, ReadsIpv6}
use Rattle.ip_wire.specs.declared.checksum.ChecksumCapabilities.{ChecksumCapabilities}
use Rattle.ip_wire.specs.declared.protocol.IpProtocol.{IpProtocol}
use Rattle.ip_wire.specs.declared.protocol.IpProtocol.TheVariants as protocol
use Rattle.ip_wire.specs.declared.repr.IpRepr.{IpRepr}
use Rattle.ip_wire.specs.declared.repr.IpRepr.TheVariants as header
use Rattle.ip_wire.specs.declared.repr.Ipv4Repr.{Ipv4Repr}
use Rattle.ip_wire.specs.declared.repr.Ipv6Repr.{Ipv6Repr}
use Rattle.control_wire.specs.Segment.{Segment, segment_header_len}
use Rattle.control_wire.specs.declared.udp.UdpRepr.{UdpRepr}
use Rattle.segment_wire.specs.Packet.{Carried, carried, carried_if, carried_v4, carried_v6, fits_v4, is_fragment, is_whole_v4, is_whole_v6, tcp_of, tcp_packet, tcp_packet_parsed, udp_of, udp_packet, udp_packet_parsed, with_datagram, with_segment}
use Rattle.segment_wire.specs.RoundTrip.{IsDatagram, IsHeader, IsWritable, TestsWhatIsSent}
use Rattle.segment_wire.specs.Tcp.{tcp_checksum, tcp_octets, tcp_with}
use Rattle.segment_wire.specs.Udp.{udp_checksum, udp_octets, udp_with}
use Rattle.segment_wire.proofs.TcpTrips.{AreWords, Verifies, segment_back, segment_size}
use Rattle.segment_wire.proofs.UdpTrips.{OnesForZero, datagram_back, size}

abbrev pub ReadsV4 : Type 0
ReadsV4 = (sent tested : Bool) (h : Ipv4Repr) (payload rest : List ℕ) → IsIpv4Header h → length payload ≡ h.payload_len → (tested ≡ true → sent ≡ true) → ReadsIpv4 tested (ipv4_octets sent h ++ (payload ++ rest)) h payload

abbrev pub ReadsV6 : Type 0
ReadsV6 = (h : Ipv6Repr) (payload rest : List ℕ) → IsIpv6Header h → length payload ≡ h.payload_len → ReadsIpv6 (ipv6_octets h ++ (payload ++ rest)) h payload

le_true : (m n : ℕ) → m ≤ n → nat_le m n ≡ true
le_true m n h = grind (arith, nat_tests)

all_three : (a b c : Bool) → a ≡ true → b ≡ true → c ≡ true → (a && (b && c)) ≡ true
all_three a b c p q r = rw (p, q, r) refl

both : (a b : Bool) → a ≡ true → b ≡ true → (a && b) ≡ true
both a b p q = rw (p, q) refl

fits : (o : List ℕ) → IsIpv4 o → fits_v4 o ≡ true
fits o is = all_three _ _ _ (le_true 20 (ipv4_header_len o) is.header) (le_true (ipv4_header_len o) (ipv4_total_len o) is.total) (le_true (ipv4_total_len o) (length o) is.room)

-- what is written has DF alone
never_a_fragment : (sent : Bool) (h : Ipv4Repr) (payload : List ℕ) → not (is_fragment (ipv4_octets sent h ++ payload)) ≡ true
never_a_fragment sent h payload = refl

whole_v4 : (sent : Bool) (h : Ipv4Repr) (payload : List ℕ) → IsIpv4 (ipv4_octets sent h ++ payload) → is_whole_v4 (ipv4_octets sent h ++ payload) ≡ true
whole_v4 sent h payload is = both _ _ (fits (ipv4_octets sent h ++ payload) is) (never_a_fragment sent h payload)

whole_v6 : (o : List ℕ) → IsIpv6 o → is_whole_v6 o ≡ true
whole_v6 o is = both _ _ (le_true 40 (length o) is.header) (le_true (40 + be16_at o 4) (length o) is.room)

abbrev carrying : IpRepr → List ℕ → Carried
carrying ip octets = record { ip = ip; octets = octets }

-- with anything behind the packet, as Ethernet's padding
pub carried_back : ReadsV4 → ReadsV6 → (sent tested : Bool) (ip : IpRepr) (payload rest : List ℕ) → IsHeader ip
    → length payload ≡ payload_len_of ip → (tested ≡ true → sent ≡ true)
    → carried tested (header_octets sent ip ++ (payload ++ rest)) ≡ Some (carrying ip payload)
unfolding carried
carried_back v4 v6 sent tested (header.Ipv4 h) payload rest is l t =
    let o = ipv4_octets sent h ++ (payload ++ rest) in
    let r : ReadsIpv4 tested o h payload = v4 sent tested h payload rest is l t in
    ap (λ b. if b then carried_v4 o (ipv4_parsed tested o) else None) (whole_v4 sent h (payload ++ rest) r.whole)
    ∙ ap (carried_v4 o) r.header ∙ ap (λ p. Some (carrying (header.Ipv4 h) p)) r.payload
carried_back v4 v6 sent tested (header.Ipv6 h) payload rest is l t =
    let o = ipv6_octets h ++ (payload ++ rest) in
    let r : ReadsIpv6 o h payload = v6 h payload rest is l in
    ap (λ b. if b then carried_v6 o (ipv6_parsed o) else None) (whole_v6 o r.whole)
    ∙ ap (carried_v6 o) r.header ∙ ap (λ p. Some (carrying (header.Ipv6 h) p)) r.payload

src_are : (ip : IpRepr) → IsHeader ip → IsOctets (octets_of (src_addr_of ip))
src_are (header.Ipv4 h) is = is.src_octets
src_are (header.Ipv6 h) is = is.src_octets

dst_are : (ip : IpRepr) → IsHeader ip → IsOctets (octets_of (dst_addr_of ip))
dst_are (header.Ipv4 h) is = is.dst_octets
dst_are (header.Ipv6 h) is = is.dst_octets

module _ (v4 : ReadsV4) (v6 : ReadsV6) (law : Verifies) (words : AreWords) (sender receiver : ChecksumCapabilities) (ip : IpRepr) (is : IsHeader ip) (t : TestsWhatIsSent sender receiver) (rest : List ℕ) where
  -- what the packet carries, where it is of the protocol with this number
  carries : (o : List ℕ) (number : ℕ) (p : IpProtocol) → next_header_of ip ≡ p → length o ≡ payload_len_of ip
      → carried_if number (carried (is_received receiver.ipv4) ((header_octets (is_sent sender.ipv4) ip ++ o) ++ rest))
      ≡ (if number_of p == number then Some (carrying ip o) else None)
  carries o number p e l =
      ap (λ x. carried_if number (carried (is_received receiver.ipv4) x)) (append_assoc (header_octets (is_sent sender.ipv4) ip) o rest)
      ∙ ap (carried_if number) (carried_back v4 v6 (is_sent sender.ipv4) (is_received receiver.ipv4) ip o rest is l t.ipv4)
      ∙ ap (λ q. if number_of q == number then Some (carrying ip o) else None) e

  pub tcp_back : (s : Segment) → next_header_of ip ≡ protocol.Tcp → payload_len_of ip ≡ segment_header_len s + length s.payload → IsWritable s
      → tcp_packet_parsed receiver (tcp_packet sender ip s ++ rest) ≡ Some (record { ip = ip; segment = s })
  tcp_back s p l w =
      let src = src_addr_of ip in
      let dst = dst_addr_of ip in
      let o = tcp_octets (is_sent sender.tcp) src dst s in
      let n = if is_sent sender.tcp then tcp_checksum src dst (tcp_with s 0) else 0 in
      ap (tcp_of (is_received receiver.tcp)) (carries o 6 protocol.Tcp p (segment_size s n ∙ sym l))
      ∙ ap (with_segment ip) (segment_back law words (is_sent sender.tcp) (is_received receiver.tcp) src dst s w (src_are ip is) (dst_are ip is) t.tcp)

  pub udp_back : OnesForZero → (u : UdpRepr) (payload : List ℕ) → next_header_of ip ≡ protocol.Udp → payload_len_of ip ≡ 8 + length payload → IsDatagram u payload
      → udp_packet_parsed receiver (udp_packet sender ip u payload ++ rest) ≡ Some (record { ip = ip; datagram = record { header = u; payload = payload } })
  udp_back ones u payload p l w =
      let src = src_addr_of ip in
      let dst = dst_addr_of ip in
      let o = udp_octets (is_sent sender.udp) src dst u payload in
      let n = if is_sent sender.udp then udp_checksum src dst (udp_with u payload 0) else 0 in
      ap (udp_of (is_received receiver.udp)) (carries o 17 protocol.Udp p (size u payload n ∙ sym l))
      ∙ ap (with_datagram ip) (datagram_back law ones words (is_sent sender.udp) (is_received receiver.udp) src dst u payload w (src_are ip is) (dst_are ip is) t.udp)
