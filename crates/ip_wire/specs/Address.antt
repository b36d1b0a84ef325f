-- Addresses: their octets, their version, and what is asked of them.
use Rattle.std.specs.Prelude.{ℕ, ◌≡◌, List, Bool, true, false, slice_index, nat_le, ◌==◌, ◌&&◌}
use Rattle.std.specs.List.{list_all}
use Rattle.ip_wire.specs.declared.address.IpAddress.{IpAddress}
use Rattle.ip_wire.specs.declared.address.IpAddress.TheVariants as address
use Rattle.ip_wire.specs.declared.protocol.IpVersion.{IpVersion}
use Rattle.ip_wire.specs.declared.protocol.IpVersion.TheVariants as version

abbrev pub version_of : IpAddress → IpVersion
version_of (address.Ipv4 a) = version.Ipv4
version_of (address.Ipv6 a) = version.Ipv6

abbrev pub SameVersion : IpAddress → IpAddress → Type 0
SameVersion a b = version_of a ≡ version_of b

abbrev pub same_version : IpAddress → IpAddress → Bool
same_version (address.Ipv4 a) (address.Ipv4 b) = true
same_version (address.Ipv6 a) (address.Ipv6 b) = true
same_version _ _ = false

-- the octets of an address, the first on the wire first
abbrev pub octets_of : IpAddress → List ℕ
octets_of (address.Ipv4 a) = a.0
octets_of (address.Ipv6 a) = a.0

-- the unspecified address has only zero octets (RFC 1122, section 3.2.1.3; RFC 4291, section 2.5.2)
abbrev pub all_zero : List ℕ → Bool
all_zero octets = list_all (λ octet. octet == 0) octets

abbrev pub is_unspecified : IpAddress → Bool
is_unspecified a = all_zero (octets_of a)

-- 224.0.0.0/4 (RFC 1112, section 4)
abbrev pub is_multicast_v4 : List ℕ → Bool
is_multicast_v4 octets = nat_le 224 (slice_index octets 0) && nat_le (slice_index octets 0) 239

-- ff00::/8 (RFC 4291, section 2.7)
abbrev pub is_multicast_v6 : List ℕ → Bool
is_multicast_v6 octets = slice_index octets 0 == 255

abbrev pub is_multicast : IpAddress → Bool
is_multicast (address.Ipv4 a) = is_multicast_v4 a.0
is_multicast (address.Ipv6 a) = is_multicast_v6 a.0
