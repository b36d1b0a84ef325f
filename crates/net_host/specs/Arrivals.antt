-- Whether a packet is looked at, by its addresses.
use Rattle.std.specs.Prelude.{ℕ, ◌==◌, ◌&&◌, ◌||◌, nat_le, Bool, true, false, List, slice_index, slice_range, Option}
use Rattle.std.specs.Prelude.{Some, None}
use Rattle.std.specs.Prelude.{if◌then◌else◌}
use Rattle.ip_wire.specs.Address.{all_zero, is_multicast}
use Rattle.ip_wire.specs.IpHeader.{dst_addr_of, src_addr_of}
use Rattle.ip_wire.specs.declared.address.IpAddress.{IpAddress}
use Rattle.ip_wire.specs.declared.address.IpAddress.TheVariants as address
use Rattle.ip_wire.specs.declared.repr.IpRepr.{IpRepr}
use Rattle.sock_core.specs.Facts.{Facts}
use Rattle.net_host.specs.declared.arrival.Kind.{Kind}
use Rattle.net_host.specs.declared.arrival.Kind.TheVariants as kind
use Rattle.net_host.specs.declared.counters.Reason.{Reason}
use Rattle.net_host.specs.declared.counters.Reason.TheVariants as reason

-- 0.0.0.0/8, 127.0.0.0/8 and 240.0.0.0/4 (RFC 1122, section 3.2.1.3; RFC 1112, section 4)
abbrev pub is_reserved_v4 : List ℕ → Bool
is_reserved_v4 o = (slice_index o 0 == 0) || ((slice_index o 0 == 127) || nat_le 240 (slice_index o 0))

-- ::/96, with :: and ::1, and ::ffff:0:0/96 (RFC 4291, sections 2.5.2, 2.5.3 and 2.5.5)
abbrev pub is_reserved_v6 : List ℕ → Bool
is_reserved_v6 o =
    all_zero (slice_range o 0 10)
    && (((slice_index o 10 == 0) && (slice_index o 11 == 0))
    || ((slice_index o 10 == 255) && (slice_index o 11 == 255)))

abbrev pub is_reserved : IpAddress → Bool
is_reserved (address.Ipv4 a) = is_reserved_v4 a.0
is_reserved (address.Ipv6 a) = is_reserved_v6 a.0

-- a source that no single other host has
unfoldable pub is_martian : Facts → IpAddress → Bool
is_martian f a = is_multicast a || (f.broadcast a || (f.has_address a || is_reserved a))

-- why the packet is dropped, if it is; `joined` says whether its destination is a group that was joined
unfoldable pub refusal : Facts → Bool → IpRepr → Option Reason
refusal f joined ip =
    if is_martian f (src_addr_of ip) then Some reason.Source
    else (if f.has_address (dst_addr_of ip) || (f.broadcast (dst_addr_of ip) || joined) then None
    else Some reason.Destination)

-- what the packet is looked at as, by the number of its protocol; `own` says whether it goes to the interface alone
abbrev pub kind_of : Bool → ℕ → Kind
kind_of true n =
    if n == 6 then kind.Tcp
    else (if n == 17 then kind.Udp else (if (n == 1) || (n == 58) then kind.Icmp else kind.Other))
kind_of false n = if n == 17 then kind.Udp else kind.Foreign
