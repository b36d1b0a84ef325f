-- What a context with at most one address of each version answers.
use Rattle.std.specs.Prelude.{ℕ, ℤ, ◌++◌, ◌∷◌, Bool, Option, Some, None, false, replicate, if◌then◌else◌}
use Rattle.ip_wire.specs.Address.{all_zero}
use Rattle.ip_wire.specs.declared.address.IpAddress.{IpAddress}
use Rattle.ip_wire.specs.declared.address.IpAddress.TheVariants as address
use Rattle.ip_wire.specs.declared.address.Ipv4Address.{Ipv4Address}
use Rattle.ip_wire.specs.declared.address.Ipv6Address.{Ipv6Address}
use Rattle.ip_wire.specs.declared.checksum.ChecksumCapabilities.{ChecksumCapabilities}
use Rattle.sock_core.specs.Facts.{Facts}

-- the address of IPv6 that ends in one of IPv4, behind fd00 and zeros
abbrev pub mapped : Ipv4Address → Ipv6Address
mapped a = record { 0 = 253 ∷ replicate 11 0 ++ a.0 }

-- an unspecified address is no address of the host
abbrev pub own_v4 : Ipv4Address → Option Ipv4Address
own_v4 v4 = if all_zero v4.0 then None else Some v4

-- the host's address of the version of this one, if any: the source of what goes to it
abbrev pub own_source : Ipv4Address → Ipv6Address → IpAddress → Option IpAddress
own_source v4 v6 (address.Ipv4 x) = if all_zero v4.0 then None else Some (address.Ipv4 v4)
own_source v4 v6 (address.Ipv6 x) = if all_zero v6.0 then None else Some (address.Ipv6 v6)

-- this is the host's address, where it has one; `is` says which addresses are equal
abbrev pub is_own : (IpAddress → IpAddress → Bool) → IpAddress → Option IpAddress → Bool
is_own is a None = false
is_own is a (Some own) = is a own

-- of the version 6 a source is asked for that there always is: the unspecified address where the host has none
abbrev pub host_facts : (IpAddress → IpAddress → Bool) → ℤ → ℕ → Ipv4Address → Ipv6Address → ChecksumCapabilities
    → Facts
host_facts is now mtu v4 v6 checksums = record {
  now = now;
  mtu = mtu;
  has_address = λ a. is_own is a (own_source v4 v6 a);
  source = λ d. own_source v4 v6 d;
  source_ipv4 = λ _. own_v4 v4;
  source_ipv6 = λ _. v6;
  broadcast = λ _. false;
  checksums = checksums;
}
