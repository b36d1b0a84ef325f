-- A packet behind its extension headers.
use Rattle.std.specs.Prelude.{ℕ, List, length, Option, Some, None}
use Rattle.ip_wire.specs.Protocol.{number_of, protocol_of}
use Rattle.ip_wire.specs.declared.repr.IpRepr.{IpRepr}
use Rattle.ip_wire.specs.declared.repr.IpRepr.TheVariants as header
use Rattle.ip_wire.specs.declared.repr.Ipv6Repr.{Ipv6Repr}
use Rattle.ip_extensions.specs.Headers.{Carries, Stands, behind_headers}
use Rattle.segment_wire.specs.Packet.{Carried}

-- the header names what is carried, and counts it alone
abbrev pub passed_v6 : Ipv6Repr → Stands → Option Carried
passed_v6 h (Carries n octets) =
    Some (record {
      ip = header.Ipv6 (record h { next_header = protocol_of n; payload_len = length octets });
      octets = octets;
    })
passed_v6 h _ = None

abbrev pub passed_by : IpRepr → List ℕ → Option Carried
passed_by (header.Ipv4 h) octets = Some (record { ip = header.Ipv4 h; octets = octets })
passed_by (header.Ipv6 h) octets = passed_v6 h (behind_headers (number_of h.next_header) octets)

-- an IPv6 packet without its extension headers; none where it is a fragment, a routing header names further nodes, or a
-- header is malformed (RFC 8200, section 4)
unfoldable pub passed : IpRepr → List ℕ → Option Carried
passed ip octets = passed_by ip octets
