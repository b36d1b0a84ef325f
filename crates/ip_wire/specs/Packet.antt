-- IP packets as octets: the headers that are written, and what is read of a packet (RFC 791, section 3.1; RFC 8200,
-- section 3).
use Rattle.std.specs.Prelude.{ℕ, ◌+◌, ◌-◌, ◌*◌, ◌/◌, ◌%◌, ◌≤◌, ◌==◌, ◌&&◌, ◌||◌, Bool, not, if◌then◌else◌}
use Rattle.std.specs.Prelude.{List, ◌∷◌, ◌++◌, length, take, drop, slice_index, Option, Some, None}
use Rattle.ip_wire.specs.Octets.{be16, be16_at}
use Rattle.ip_wire.specs.Protocol.{number_of, protocol_of}
use Rattle.ip_wire.specs.Sum.{all_ones, complement, sum_after}
use Rattle.ip_wire.specs.declared.repr.IpRepr.{IpRepr}
use Rattle.ip_wire.specs.declared.repr.IpRepr.TheVariants as header
use Rattle.ip_wire.specs.declared.repr.Ipv4Repr.{Ipv4Repr}
use Rattle.ip_wire.specs.declared.repr.Ipv6Repr.{Ipv6Repr}

-- an IPv4 header with its checksum: version 4 and 5 words, total length, don't fragment, hop limit, protocol
abbrev pub ipv4_with : Ipv4Repr → ℕ → List ℕ
ipv4_with h checksum =
    69 ∷ 0 ∷ (be16 (20 + h.payload_len) ++ (0 ∷ 0 ∷ 64 ∷ 0 ∷ h.hop_limit ∷ number_of h.next_header ∷ (be16 checksum
    ++ (h.src_addr.0 ++ h.dst_addr.0))))

-- where the checksum is not sent it is 0
abbrev pub ipv4_octets : Bool → Ipv4Repr → List ℕ
ipv4_octets sent h = ipv4_with h (if sent then complement (sum_after 0 (ipv4_with h 0)) else 0)

-- version 6, payload length, next header, hop limit, addresses
abbrev pub ipv6_octets : Ipv6Repr → List ℕ
ipv6_octets h =
    96 ∷ 0 ∷ 0 ∷ 0 ∷ (be16 h.payload_len ++ (number_of h.next_header ∷ h.hop_limit ∷ (h.src_addr.0 ++ h.dst_addr.0)))

abbrev pub header_octets : Bool → IpRepr → List ℕ
header_octets sent (header.Ipv4 h) = ipv4_octets sent h
header_octets sent (header.Ipv6 h) = ipv6_octets h

-- the octets of an IPv4 header, whose low half of the first octet counts words of four
abbrev pub ipv4_header_len : List ℕ → ℕ
ipv4_header_len packet = slice_index packet 0 % 16 * 4

abbrev pub ipv4_total_len : List ℕ → ℕ
ipv4_total_len packet = be16_at packet 2

pub record IsIpv4 (packet : List ℕ) : Type 0 where
  pub header : 20 ≤ ipv4_header_len packet
  pub total : ipv4_header_len packet ≤ ipv4_total_len packet
  pub room : ipv4_total_len packet ≤ length packet

pub record IsIpv6 (packet : List ℕ) : Type 0 where
  pub header : 40 ≤ length packet
  pub room : 40 + be16_at packet 4 ≤ length packet

abbrev pub ipv4_payload : List ℕ → List ℕ
ipv4_payload packet = take (ipv4_total_len packet - ipv4_header_len packet) (drop (ipv4_header_len packet) packet)

abbrev pub ipv6_payload : List ℕ → List ℕ
ipv6_payload packet = take (be16_at packet 4) (drop 40 packet)

-- an IPv4 packet with this number as its checksum
abbrev pub with_checksum : List ℕ → ℕ → List ℕ
with_checksum packet checksum = take 10 packet ++ (be16 checksum ++ drop 12 packet)

-- with the checksum that verifies, over the header and its options
abbrev pub checksum_filled : List ℕ → List ℕ
checksum_filled packet =
    with_checksum packet (complement (sum_after 0 (take (ipv4_header_len packet) (with_checksum packet 0))))

abbrev pub checksum_holds : List ℕ → Bool
checksum_holds packet = sum_after 0 (take (ipv4_header_len packet) packet) == all_ones

abbrev pub version_number : List ℕ → ℕ
version_number packet = slice_index packet 0 / 16

-- what stands in an IPv4 header, whatever its version, with a payload length
abbrev pub ipv4_fields : List ℕ → ℕ → Ipv4Repr
ipv4_fields packet len =
    record {
      src_addr = record { 0 = take 4 (drop 12 packet) };
      dst_addr = record { 0 = take 4 (drop 16 packet) };
      next_header = protocol_of (slice_index packet 9);
      payload_len = len;
      hop_limit = slice_index packet 8;
    }

abbrev pub ipv6_fields : List ℕ → ℕ → Ipv6Repr
ipv6_fields packet len =
    record {
      src_addr = record { 0 = take 16 (drop 8 packet) };
      dst_addr = record { 0 = take 16 (drop 24 packet) };
      next_header = protocol_of (slice_index packet 6);
      payload_len = len;
      hop_limit = slice_index packet 7;
    }

-- another version is refused, and where checksums are tested one that fails
abbrev pub ipv4_parsed : Bool → List ℕ → Option Ipv4Repr
ipv4_parsed tested packet =
    if (version_number packet == 4) && (not tested || checksum_holds packet)
    then Some (ipv4_fields packet (ipv4_total_len packet - ipv4_header_len packet))
    else None

abbrev pub ipv6_parsed : List ℕ → Option Ipv6Repr
ipv6_parsed packet = if version_number packet == 6 then Some (ipv6_fields packet (be16_at packet 4)) else None
