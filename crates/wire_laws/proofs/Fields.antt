-- From what the types say, and what a segment of a socket keeps, to what the laws of the forms ask.
use Rattle.std.proofs.Common.{◌≡◌, ℕ, ◌+◌, ◌≤◌, List, [], ◌∷◌, ◌++◌, true, Option, Some, None, refl, sym, subst, length, get_or, arith}
use Rattle.std.specs.Option.{ForSome}
use Rattle.ip_wire.specs.IpHeader.{header_len_of, next_header_of, payload_len_of}
use Rattle.ip_wire.specs.RoundTrip.{IsNamed}
use Rattle.ip_wire.specs.declared.checksum.ChecksumCapabilities.{ChecksumCapabilities}
use Rattle.ip_wire.specs.declared.protocol.IpProtocol.{IpProtocol}
use Rattle.ip_wire.specs.declared.protocol.IpProtocol.TheVariants as protocol
use Rattle.ip_wire.specs.declared.repr.IpRepr.{IpRepr}
use Rattle.ip_wire.specs.declared.repr.IpRepr.TheVariants as header
use Rattle.control_wire.specs.Fits.{is_packed, FitsPacket, HasPorts}
use Rattle.control_wire.specs.Segment.{Segment, segment_header_len}
use Rattle.segment_wire.specs.Packet.{tcp_packet, tcp_packet_parsed}
use Rattle.segment_wire.specs.RoundTrip.{AreRanges, IsHeader, IsShift, IsWritable, TestsWhatIsSent}
use Rattle.wire_laws.specs.Fields.{RangeFits, RangesFit, HeaderFits, HasWidths}
use Rattle.pair_core.specs.PairViews.{StoredView}
use Rattle.wire_laws.specs.Survival.{Survives, SurvivesWithPorts}

-- a list of three places
pub ranges_fit : (xs : List (Option (ℕ × ℕ))) → length xs ≡ 3 → RangeFits (get_or xs 0 None) → RangeFits (get_or xs 1 None) → RangeFits (get_or xs 2 None) → RangesFit xs
ranges_fit [] e x y z = absurd (omega (arith, e))
ranges_fit (a ∷ []) e x y z = absurd (omega (arith, e))
ranges_fit (a ∷ b ∷ []) e x y z = absurd (omega (arith, e))
ranges_fit (a ∷ b ∷ c ∷ []) e x y z = (x, y, z)
ranges_fit (a ∷ b ∷ c ∷ d ∷ xs) e x y z = absurd (omega (arith, e))

is_shift : (o : Option ℕ) → ForSome o (λ n. n ≤ 14) → IsShift o
is_shift None h = tt
is_shift (Some n) h = h n refl

three : (a b c : Option (ℕ × ℕ)) → is_packed (a ∷ b ∷ c ∷ []) ≡ true → RangeFits a → RangeFits b → RangeFits c → AreRanges (a ∷ b ∷ c ∷ [])
three None None None p x y z = tt
three None None (Some c) p x y z = absurd cc
three None (Some b) None p x y z = absurd cc
three None (Some b) (Some c) p x y z = absurd cc
three (Some a) None None p x y z = x
three (Some a) None (Some c) p x y z = absurd cc
three (Some a) (Some b) None p x y z = (x, y)
three (Some a) (Some b) (Some c) p x y z = (x, y, z)

are_ranges : (xs : List (Option (ℕ × ℕ))) → is_packed xs ≡ true → RangesFit xs → AreRanges xs
are_ranges [] p h = absurd h
are_ranges (a ∷ []) p h = absurd h
are_ranges (a ∷ b ∷ []) p h = absurd h
are_ranges (a ∷ b ∷ c ∷ []) p h = three a b c p h.0 h.1 h.2
are_ranges (a ∷ b ∷ c ∷ d ∷ xs) p h = absurd h

is_writable : (ip : IpRepr) (s : Segment) → FitsPacket ip s → HasWidths ip s → HasPorts s → IsWritable s
is_writable ip s f w p =
    record {
      ports = p;
      numbers = w.numbers;
      scale = is_shift s.window_scale f.header.scale;
      ranges = are_ranges s.sack_ranges f.header.ranges w.sack_ranges;
      options = f.header.options;
    }

named : (p : IpProtocol) → p ≡ protocol.Tcp → IsNamed p
named p e = subst IsNamed (sym e) (record { octet = omega arith; name = refl })

is_header : (ip : IpRepr) → next_header_of ip ≡ protocol.Tcp → header_len_of ip + payload_len_of ip ≤ 65535 → HeaderFits ip → IsHeader ip
is_header (header.Ipv4 h) p n w = record { src = w.src; src_octets = w.src_octets; dst = w.dst; dst_octets = w.dst_octets; protocol = named h.next_header p; total = omega (arith, n); hops = w.hops }
is_header (header.Ipv6 h) p n w = record { src = w.src; src_octets = w.src_octets; dst = w.dst; dst_octets = w.dst_octets; protocol = named h.next_header p; payload = omega (arith, n); hops = w.hops }

-- the law of the forms, for one header and one segment
pub survives : ((sender receiver : ChecksumCapabilities) (ip : IpRepr) (s : Segment) (rest : List ℕ) → IsHeader ip → next_header_of ip ≡ protocol.Tcp → payload_len_of ip ≡ segment_header_len s + length s.payload → IsWritable s → TestsWhatIsSent sender receiver → tcp_packet_parsed receiver (tcp_packet sender ip s ++ rest) ≡ Some (record { ip = ip; segment = s })) → (ip : IpRepr) (s : Segment) → FitsPacket ip s → HasWidths ip s → SurvivesWithPorts ip s
survives law ip s f w p sender receiver rest t = law sender receiver ip s rest (is_header ip f.protocol f.total w.header) f.protocol f.octets (is_writable ip s f w p) t

-- a stored segment, of which both are known
pub both_ports : (o : Option StoredView) → ForSome o (λ t. SurvivesWithPorts t.ip t.segment) → ForSome o (λ t. HasPorts t.segment) → (t : StoredView) → o ≡ Some t → Survives t.ip t.segment
both_ports o law ports t is = law t is (ports t is)
