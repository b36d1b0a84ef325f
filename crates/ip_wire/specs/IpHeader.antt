-- IP headers of either version.
use Rattle.std.specs.Prelude.{ℕ}
use Rattle.ip_wire.specs.declared.address.IpAddress.{IpAddress}
use Rattle.ip_wire.specs.declared.address.IpAddress.TheVariants as address
use Rattle.ip_wire.specs.declared.address.Ipv4Address.{Ipv4Address}
use Rattle.ip_wire.specs.declared.address.Ipv6Address.{Ipv6Address}
use Rattle.ip_wire.specs.declared.protocol.IpProtocol.{IpProtocol}
use Rattle.ip_wire.specs.declared.protocol.IpVersion.{IpVersion}
use Rattle.ip_wire.specs.declared.protocol.IpVersion.TheVariants as version
use Rattle.ip_wire.specs.declared.repr.IpRepr.{IpRepr}
use Rattle.ip_wire.specs.declared.repr.IpRepr.TheVariants as header

abbrev pub ipv4_header : Ipv4Address → Ipv4Address → IpProtocol → ℕ → ℕ → IpRepr
ipv4_header src dst protocol len hops =
    header.Ipv4 (record { src_addr = src; dst_addr = dst; next_header = protocol; payload_len = len; hop_limit = hops })

abbrev pub ipv6_header : Ipv6Address → Ipv6Address → IpProtocol → ℕ → ℕ → IpRepr
ipv6_header src dst protocol len hops =
    header.Ipv6 (record { src_addr = src; dst_addr = dst; next_header = protocol; payload_len = len; hop_limit = hops })

-- the header between two addresses of one version; between two of different versions no call makes one
abbrev pub ip_header : IpAddress → IpAddress → IpProtocol → ℕ → ℕ → IpRepr
ip_header (address.Ipv4 src) (address.Ipv4 dst) protocol len hops = ipv4_header src dst protocol len hops
ip_header (address.Ipv6 src) (address.Ipv6 dst) protocol len hops = ipv6_header src dst protocol len hops
ip_header (address.Ipv4 src) (address.Ipv6 dst) protocol len hops = ipv4_header src src protocol len hops
ip_header (address.Ipv6 src) (address.Ipv4 dst) protocol len hops = ipv6_header src src protocol len hops

abbrev pub src_addr_of : IpRepr → IpAddress
src_addr_of (header.Ipv4 h) = address.Ipv4 h.src_addr
src_addr_of (header.Ipv6 h) = address.Ipv6 h.src_addr

abbrev pub dst_addr_of : IpRepr → IpAddress
dst_addr_of (header.Ipv4 h) = address.Ipv4 h.dst_addr
dst_addr_of (header.Ipv6 h) = address.Ipv6 h.dst_addr

abbrev pub payload_len_of : IpRepr → ℕ
payload_len_of (header.Ipv4 h) = h.payload_len
payload_len_of (header.Ipv6 h) = h.payload_len

abbrev pub next_header_of : IpRepr → IpProtocol
next_header_of (header.Ipv4 h) = h.next_header
next_header_of (header.Ipv6 h) = h.next_header

abbrev pub hop_limit_of : IpRepr → ℕ
hop_limit_of (header.Ipv4 h) = h.hop_limit
hop_limit_of (header.Ipv6 h) = h.hop_limit

-- the version of a header
abbrev pub header_version : IpRepr → IpVersion
header_version (header.Ipv4 h) = version.Ipv4
header_version (header.Ipv6 h) = version.Ipv6

-- a header's octets, without options (RFC 791, section 3.1; RFC 8200, section 3)
abbrev pub header_len_of : IpRepr → ℕ
header_len_of (header.Ipv4 h) = 20
header_len_of (header.Ipv6 h) = 40

abbrev pub with_payload_len : IpRepr → ℕ → IpRepr
with_payload_len (header.Ipv4 h) len = header.Ipv4 (record h { payload_len = len })
with_payload_len (header.Ipv6 h) len = header.Ipv6 (record h { payload_len = len })
