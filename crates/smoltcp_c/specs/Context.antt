-- What a C context tells.
use Rattle.std.specs.Prelude.{pos, negsuc, int_le, nat_le, ◌&&◌, Bool, false, not, Option, Some, None}
use Rattle.std.specs.Prelude.{option_map, if◌then◌else◌}
use Rattle.std.specs.Str.{bytes_eq}
use Rattle.ip_wire.specs.Address.{all_zero}
use Rattle.ip_wire.specs.Checksum.{all_checksums}
use Rattle.ip_wire.specs.declared.address.IpAddress.{IpAddress}
use Rattle.ip_wire.specs.declared.address.IpAddress.TheVariants as address
use Rattle.ip_wire.specs.declared.address.Ipv4Address.{Ipv4Address}
use Rattle.ip_wire.specs.declared.address.Ipv6Address.{Ipv6Address}
use Rattle.ip_wire.specs.declared.checksum.Checksum.TheVariants as checksum
use Rattle.sock_core.specs.Facts.{Facts}
use Rattle.smoltcp_c.specs.declared.context.Cx.{Cx}

-- the moment lies within 2^61 microseconds of zero, and the MTU from 68 to 65535 bytes
abbrev pub is_context : Cx → Bool
is_context cx =
    int_le (negsuc 2305843009213693951) cx.now && (int_le cx.now (pos 2305843009213693952)
    && (nat_le 68 cx.ip_mtu && nat_le cx.ip_mtu 65535))

-- an address of zeros was never set: it is no address of the interface
abbrev pub own_v4 : Cx → Option Ipv4Address
own_v4 cx = if all_zero cx.v4 then None else Some (record { 0 = cx.v4 })

abbrev pub own_v6 : Cx → Option Ipv6Address
own_v6 cx = if all_zero cx.v6 then None else Some (record { 0 = cx.v6 })

-- the interface has this address
abbrev pub has_address : Cx → IpAddress → Bool
has_address cx (address.Ipv4 a) = bytes_eq a.0 cx.v4 && not (all_zero a.0)
has_address cx (address.Ipv6 a) = bytes_eq a.0 cx.v6 && not (all_zero a.0)

-- its own address, of the version of this one, if it has one
abbrev pub own_address : Cx → IpAddress → Option IpAddress
own_address cx (address.Ipv4 a) = option_map address.Ipv4 (own_v4 cx)
own_address cx (address.Ipv6 a) = option_map address.Ipv6 (own_v6 cx)

-- What a socket is told: no address is a broadcast one, and all checksums are computed and tested. The sources of one
-- version are asked for by ICMP sockets alone, whose messages from an address of zeros are not written
abbrev pub facts_in : Cx → Facts
facts_in cx =
    record {
      now = cx.now;
      mtu = cx.ip_mtu;
      has_address = has_address cx;
      source = λ a. own_address cx a;
      source_ipv4 = λ _. Some (record { 0 = cx.v4 });
      source_ipv6 = λ _. record { 0 = cx.v6 };
      broadcast = λ _. false;
      checksums = all_checksums checksum.Both;
    }
