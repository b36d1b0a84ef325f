-- What an interface answers its sockets.
use Rattle.std.specs.Prelude.{Bool}
use Rattle.std.specs.List.{list_any}
use Rattle.ip_wire.specs.declared.address.IpAddress.{IpAddress}
use Rattle.ip_wire.specs.declared.address.IpAddress.TheVariants as address
use Rattle.sock_core.specs.Facts.{Facts}
use Rattle.net_host.specs.Addresses.{as_v4, as_v6, is_broadcast, source_of}
use Rattle.net_host.specs.declared.environment.Environment.{Environment}

-- `is` says which addresses are equal
abbrev pub facts_by : (IpAddress → IpAddress → Bool) → Environment → Facts
facts_by is e = record {
  now = e.now.micros;
  mtu = e.mtu;
  has_address = λ a. list_any (λ c. is c.address a) e.addresses.items;
  source = λ d. source_of e.addresses.items d;
  source_ipv4 = λ d. as_v4 (source_of e.addresses.items (address.Ipv4 d));
  source_ipv6 = λ d. as_v6 (source_of e.addresses.items (address.Ipv6 d));
  broadcast = λ a. is_broadcast e.addresses.items a;
  checksums = e.checksums;
}
