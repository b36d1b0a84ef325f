-- Endpoints: what is printed of them.
use Rattle.std.specs.Prelude.{ℕ, ◌+◌, ◌/◌, ◌%◌, List, [], ◌∷◌, ◌++◌, slice_index, codes, decimal}
use Rattle.std.specs.Char.{digit_char}
use Rattle.ip_wire.specs.declared.address.IpAddress.{IpAddress}
use Rattle.ip_wire.specs.declared.address.IpAddress.TheVariants as address
use Rattle.ip_wire.specs.declared.endpoint.IpEndpoint.{IpEndpoint}

-- four decimal numbers joined by dots
abbrev pub ipv4_text : List ℕ → List ℕ
ipv4_text octets =
    decimal (slice_index octets 0) ++ codes "." ++ decimal (slice_index octets 1) ++ codes "."
    ++ decimal (slice_index octets 2) ++ codes "." ++ decimal (slice_index octets 3)

-- two lower-case hexadecimal digits
abbrev pub octet_text : ℕ → List ℕ
octet_text n = digit_char (n / 16) ∷ digit_char (n % 16) ∷ []

-- two octets as one group of four digits
unfoldable pub group_text : ℕ → ℕ → List ℕ
group_text high low = octet_text high ++ octet_text low

-- the group at offset i of an address
abbrev pub group_at : List ℕ → ℕ → List ℕ
group_at octets i = group_text (slice_index octets i) (slice_index octets (i + 1))

-- the four groups from offset i on, joined by colons
unfoldable pub two_groups : List ℕ → ℕ → List ℕ
two_groups octets i = group_at octets i ++ codes ":" ++ group_at octets (i + 2)

unfoldable pub four_groups : List ℕ → ℕ → List ℕ
four_groups octets i = two_groups octets i ++ codes ":" ++ two_groups octets (i + 4)

-- eight groups, joined by colons
unfoldable pub ipv6_text : List ℕ → List ℕ
ipv6_text octets = four_groups octets 0 ++ codes ":" ++ four_groups octets 8

abbrev pub addr_text : IpAddress → List ℕ
addr_text (address.Ipv4 a) = ipv4_text a.0
addr_text (address.Ipv6 a) = codes "[" ++ ipv6_text a.0 ++ codes "]"

-- `10.0.0.1:80`, or `[..]:80` with eight groups of four digits
abbrev pub endpoint_text : IpEndpoint → List ℕ
endpoint_text e = addr_text e.addr ++ codes ":" ++ decimal e.port
