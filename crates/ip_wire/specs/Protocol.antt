-- Versions of IP and the numbers of the protocols above it.
use Rattle.std.specs.Prelude.{ℕ, ◌==◌, ◌/◌, if◌then◌else◌, List, [], ◌∷◌, Option, Some, None}
use Rattle.ip_wire.specs.declared.protocol.IpProtocol.{IpProtocol}
use Rattle.ip_wire.specs.declared.protocol.IpProtocol.TheVariants as protocol
use Rattle.ip_wire.specs.declared.protocol.IpVersion.{IpVersion}
use Rattle.ip_wire.specs.declared.protocol.IpVersion.TheVariants as version

-- the protocol of an IANA protocol number
abbrev pub protocol_of : ℕ → IpProtocol
protocol_of n =
    if n == 1 then protocol.Icmp
    else (if n == 6 then protocol.Tcp
    else (if n == 17 then protocol.Udp
    else (if n == 58 then protocol.Icmpv6 else protocol.Unknown n)))

-- the IANA protocol number of a protocol
abbrev pub number_of : IpProtocol → ℕ
number_of protocol.Icmp = 1
number_of protocol.Tcp = 6
number_of protocol.Udp = 17
number_of protocol.Icmpv6 = 58
number_of (protocol.Unknown n) = n

abbrev pub version_of_number : ℕ → Option IpVersion
version_of_number n =
    if n == 4 then Some version.Ipv4 else (if n == 6 then Some version.Ipv6 else None)

-- the version that the high half of a packet's first octet tells (RFC 791, section 3.1; RFC 8200, section 3)
abbrev pub version_of_packet : List ℕ → Option IpVersion
version_of_packet [] = None
version_of_packet (first ∷ rest) = version_of_number (first / 16)
