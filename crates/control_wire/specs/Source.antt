-- Which UDP datagrams and TCP segments are whole, so that their source port is read.
use Rattle.std.specs.Prelude.{ℕ, ◌-◌, ◌*◌, ◌/◌, ◌%◌, ◌==◌, ◌&&◌, ◌||◌, nat_le, not, Bool, true, false, zero, suc}
use Rattle.std.specs.Prelude.{List, [], ◌∷◌, length, take, drop, slice_index, Option, Some, None, if◌then◌else◌}
use Rattle.ip_wire.specs.Octets.{be16_at}
use Rattle.ip_wire.specs.Sum.{all_ones, pseudo_sum, sum_after}
use Rattle.ip_wire.specs.declared.address.IpAddress.{IpAddress}
use Rattle.ip_wire.specs.declared.address.IpAddress.TheVariants as address

abbrev pub both_ipv4 : IpAddress → IpAddress → Bool
both_ipv4 (address.Ipv4 a) (address.Ipv4 b) = true
both_ipv4 _ _ = false

-- whether the checksum over the pseudo header and the octets verifies
abbrev pub sum_holds : IpAddress → IpAddress → ℕ → List ℕ → Bool
sum_holds src dst protocol octets = sum_after (pseudo_sum src dst protocol (length octets)) octets == all_ones

-- a checksum of 0 says over IPv4 that there is none (RFC 768)
abbrev pub udp_sum_holds : IpAddress → IpAddress → List ℕ → Bool
udp_sum_holds src dst datagram =
    (both_ipv4 src dst && (be16_at datagram 6 == 0)) || sum_holds src dst 17 (take (be16_at datagram 4) datagram)

-- the length fits, and there is a destination port
abbrev pub is_datagram : List ℕ → Bool
is_datagram octets =
    nat_le 8 (be16_at octets 4) && nat_le (be16_at octets 4) (length octets) && not (be16_at octets 2 == 0)

abbrev pub udp_source : Bool → IpAddress → IpAddress → List ℕ → Option ℕ
udp_source tested src dst octets =
    if is_datagram octets && (not tested || udp_sum_holds src dst octets) then Some (be16_at octets 0) else None

-- MSS, window scale, SACK permitted and timestamps have one length each, SACK one to four blocks
-- (RFC 9293, section 3.2; RFC 7323, sections 2.2 and 3.2; RFC 2018, sections 2 and 3)
abbrev pub is_option : ℕ → ℕ → Bool
is_option kind len =
    if kind == 2 then len == 4
    else (if kind == 3 then len == 3
    else (if kind == 4 then len == 2
    else (if kind == 8 then len == 10
    else (if kind == 5 then (len == 10) || (len == 18) || (len == 26) || (len == 34) else nat_le 2 len))))

-- Options behind a number of octets that belong to the one before: kind 0 ends them, kind 1 is one octet, and each
-- other kind has a length behind it that counts both.
abbrev pub options_after : ℕ → List ℕ → Bool
options_after zero [] = true
options_after (suc n) [] = false
options_after (suc n) (octet ∷ rest) = options_after n rest
options_after zero (kind ∷ []) = (kind == 0) || (kind == 1)
options_after zero (kind ∷ len ∷ rest) =
    if kind == 0 then true
    else (if kind == 1 then options_after 0 (len ∷ rest) else is_option kind len && options_after (len - 2) rest)

-- how many octets an option takes that begins with these two, where it fits into so many that are left
abbrev pub option_len : ℕ → ℕ → ℕ → Option ℕ
option_len kind len room =
    if kind == 1 then Some 1 else (if is_option kind len && nat_le len room then Some len else None)

abbrev pub tcp_header_len : List ℕ → ℕ
tcp_header_len octets = slice_index octets 12 / 16 * 4

-- of FIN, SYN and RST, the three low bits
abbrev pub at_most_one : ℕ → Bool
at_most_one control = (control == 0) || (control == 1) || (control == 2) || (control == 4)

-- the header fits, both ports are there, and its control bits and options are in order
abbrev pub is_segment : List ℕ → Bool
is_segment octets =
    nat_le 20 (tcp_header_len octets) && nat_le (tcp_header_len octets) (length octets)
    && not (be16_at octets 0 == 0) && not (be16_at octets 2 == 0) && at_most_one (slice_index octets 13 % 8)
    && options_after 0 (take (tcp_header_len octets - 20) (drop 20 octets))

abbrev pub tcp_source : Bool → IpAddress → IpAddress → List ℕ → Option ℕ
tcp_source tested src dst octets =
    if is_segment octets && (not tested || sum_holds src dst 6 octets) then Some (be16_at octets 0) else None
