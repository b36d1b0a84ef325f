-- What single words of a drill's line mean.
use Rattle.std.specs.Prelude.{Option, Some, None, bytes_eq, codes, if◌then◌else◌}
use Rattle.ip_wire.specs.declared.protocol.IpVersion.{IpVersion}
use Rattle.ip_wire.specs.declared.protocol.IpVersion.TheVariants as version
use Rattle.ip_wire.specs.declared.checksum.Checksum.{Checksum}
use Rattle.ip_wire.specs.declared.checksum.Checksum.TheVariants as checksum
use Rattle.sock_tcp.specs.declared.settings.CongestionControl.{CongestionControl}
use Rattle.sock_tcp.specs.declared.settings.CongestionControl.TheVariants as congestion
use Rattle.sock_pair.specs.ScriptWords.{Word}

-- `4`, `6`, or `-` for both
unfoldable pub version_of : Word → Option (Option IpVersion)
version_of word =
    if bytes_eq word (codes "4") then Some (Some version.Ipv4)
    else (if bytes_eq word (codes "6") then Some (Some version.Ipv6)
    else (if bytes_eq word (codes "-") then Some None else None))

-- `reno`, `cubic` or `none`
unfoldable pub congestion_of : Word → Option CongestionControl
congestion_of word =
    if bytes_eq word (codes "reno") then Some congestion.Reno
    else (if bytes_eq word (codes "cubic") then Some congestion.Cubic
    else (if bytes_eq word (codes "none") then Some congestion.None else None))

-- `both`, `rx`, `tx` or `none`
unfoldable pub checksum_of : Word → Option Checksum
checksum_of word =
    if bytes_eq word (codes "both") then Some checksum.Both
    else (if bytes_eq word (codes "rx") then Some checksum.Rx
    else (if bytes_eq word (codes "tx") then Some checksum.Tx
    else (if bytes_eq word (codes "none") then Some checksum.None else None)))
