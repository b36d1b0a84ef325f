-- What a context answers.
use Rattle.std.specs.Prelude.{ℕ, ℤ, Bool, Option}
use Rattle.ip_wire.specs.declared.address.IpAddress.{IpAddress}
use Rattle.ip_wire.specs.declared.address.Ipv4Address.{Ipv4Address}
use Rattle.ip_wire.specs.declared.address.Ipv6Address.{Ipv6Address}
use Rattle.ip_wire.specs.declared.checksum.ChecksumCapabilities.{ChecksumCapabilities}
use Rattle.sock_core.specs.Bounds.{IsMoment, IsMtu}

-- what a context answers, its words apart
pub record Facts : Type 0 where
  pub now : ℤ
  pub mtu : ℕ
  pub has_address : IpAddress → Bool
  pub source : IpAddress → Option IpAddress
  pub source_ipv4 : Ipv4Address → Option Ipv4Address
  pub source_ipv6 : Ipv6Address → Ipv6Address
  pub broadcast : IpAddress → Bool
  pub checksums : ChecksumCapabilities

abbrev pub IsLawful : Facts → Type 0
IsLawful f = IsMoment f.now × IsMtu f.mtu
