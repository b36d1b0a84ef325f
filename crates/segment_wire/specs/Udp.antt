-- UDP datagrams as octets, written and read (RFC 768).
use Rattle.std.specs.Prelude.{ℕ, ◌+◌, ◌-◌, ◌==◌, Bool, if◌then◌else◌, List, ◌++◌, length, take, drop, Option, Some}
use Rattle.std.specs.Prelude.{None}
use Rattle.std.specs.Borrow.{Bor}
use Rattle.ip_wire.specs.Octets.{be16, be16_at}
use Rattle.ip_wire.specs.Sum.{all_ones, complement, pseudo_sum, sum_after}
use Rattle.ip_wire.specs.declared.address.IpAddress.{IpAddress}
use Rattle.control_wire.specs.Source.{udp_source}
use Rattle.control_wire.specs.declared.udp.UdpRepr.{UdpRepr}

-- ports, length, checksum, and the payload
unfoldable pub udp_with : UdpRepr → List ℕ → ℕ → List ℕ
udp_with u payload checksum =
    be16 u.src_port ++ (be16 u.dst_port ++ (be16 (8 + length payload) ++ (be16 checksum ++ payload)))

-- a checksum that comes to 0 is written as only ones
abbrev pub ones_if_zero : ℕ → ℕ
ones_if_zero sum = if sum == 0 then all_ones else sum

-- the checksum over the pseudo header and a datagram
abbrev pub udp_checksum : IpAddress → IpAddress → List ℕ → ℕ
udp_checksum src dst octets = ones_if_zero (complement (sum_after (pseudo_sum src dst 17 (length octets)) octets))

-- where the checksum is not sent it is 0
abbrev pub udp_octets : Bool → IpAddress → IpAddress → UdpRepr → List ℕ → List ℕ
udp_octets sent src dst u payload =
    udp_with u payload (if sent then udp_checksum src dst (udp_with u payload 0) else 0)

-- the header and the payload by value
pub record Datagram : Type 0 where
  pub header : UdpRepr
  pub payload : List ℕ

abbrev pub datagram_of : UdpRepr × Bor (List ℕ) → Datagram
datagram_of found = record { header = found.0; payload = found.1.now }

abbrev pub datagram_with : UdpRepr → Bor (List ℕ) → Datagram
datagram_with header payload = record { header = header; payload = payload.now }

-- what stands in a datagram with this source port, up to its length
abbrev pub datagram_if : List ℕ → Option ℕ → Option Datagram
datagram_if octets None = None
datagram_if octets (Some port) =
    Some (record {
      header = record { src_port = port; dst_port = be16_at octets 2 };
      payload = take (be16_at octets 4 - 8) (drop 8 octets);
    })

-- a datagram that `udp_source` takes: its length fits, it has a destination port, and its checksum verifies
abbrev pub udp_parsed : Bool → IpAddress → IpAddress → List ℕ → Option Datagram
udp_parsed tested src dst octets = datagram_if octets (udp_source tested src dst octets)
