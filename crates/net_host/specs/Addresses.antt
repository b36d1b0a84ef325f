-- The addresses of an interface, and what is said of others by them.
use Rattle.std.specs.Prelude.{ℕ, ◌-◌, ◌/◌, ◌%◌, ◌^◌, ◌==◌, ◌&&◌, ◌||◌, nat_le, Bool, false, List, Option, Some, None}
use Rattle.std.specs.Prelude.{option_map, replicate}
use Rattle.std.specs.List.{find, list_any}
use Rattle.std.specs.Option.{option_or}
use Rattle.std.specs.Int.{from_be_bytes, w32, w128}
use Rattle.ip_wire.specs.Address.{same_version}
use Rattle.ip_wire.specs.declared.address.IpAddress.{IpAddress}
use Rattle.ip_wire.specs.declared.address.IpAddress.TheVariants as address
use Rattle.ip_wire.specs.declared.address.Ipv4Address.{Ipv4Address}
use Rattle.ip_wire.specs.declared.address.Ipv6Address.{Ipv6Address}
use Rattle.net_host.specs.declared.cidr.IpCidr.{IpCidr}

-- two numbers agree in all but their last n bits
abbrev pub agree : ℕ → ℕ → ℕ → Bool
agree n a b = a / 2 ^ n == b / 2 ^ n

abbrev pub number_v4 : Ipv4Address → ℕ
number_v4 a = from_be_bytes w32 a.0

unfoldable pub number_v6 : Ipv6Address → ℕ
number_v6 a = from_be_bytes w128 a.0

-- the first n bits are those of an address
abbrev pub covers_by : ℕ → IpAddress → IpAddress → Bool
covers_by n (address.Ipv4 a) (address.Ipv4 b) = agree (32 - n) (number_v4 a) (number_v4 b)
covers_by n (address.Ipv6 a) (address.Ipv6 b) = agree (128 - n) (number_v6 a) (number_v6 b)
covers_by n _ _ = false

abbrev pub covers : IpCidr → IpAddress → Bool
covers c a = covers_by c.prefix_len c.address a

-- only ones or only zeros, of so many numbers
abbrev pub is_edge : (size n : ℕ) → Bool
is_edge size n = (n % size == 0) || (n % size == size - 1)

-- behind a prefix of at most 30 bits (RFC 919; RFC 1122, section 3.3.6; RFC 3021)
abbrev pub edge_behind : ℕ → IpAddress → IpAddress → Bool
edge_behind n (address.Ipv4 a) (address.Ipv4 b) =
    nat_le n 30 && (agree (32 - n) (number_v4 a) (number_v4 b) && is_edge (2 ^ (32 - n)) (number_v4 b))
edge_behind n _ _ = false

-- the broadcast address of a prefix, or the network itself, which is an old form of it
abbrev pub is_directed : IpCidr → IpAddress → Bool
is_directed c a = edge_behind c.prefix_len c.address a

-- 255.255.255.255 (RFC 919)
abbrev pub is_limited : IpAddress → Bool
is_limited (address.Ipv4 a) = number_v4 a == 4294967295
is_limited (address.Ipv6 a) = false

abbrev pub is_broadcast : List IpCidr → IpAddress → Bool
is_broadcast cs a = is_limited a || list_any (λ c. is_directed c a) cs

-- the address of the first prefix that the destination lies in, else the first one of its version
abbrev pub source_of : List IpCidr → IpAddress → Option IpAddress
source_of cs d =
    option_map (λ c. c.address) (option_or (find (λ c. covers c d) cs) (find (λ c. same_version c.address d) cs))

abbrev pub as_v4 : Option IpAddress → Option Ipv4Address
as_v4 (Some (address.Ipv4 a)) = Some a
as_v4 _ = None

-- zeros, which stand for no address
abbrev pub no_address_v6 : Ipv6Address
no_address_v6 = record { 0 = replicate 16 0 }

abbrev pub as_v6 : Option IpAddress → Ipv6Address
as_v6 (Some (address.Ipv6 a)) = a
as_v6 _ = no_address_v6
