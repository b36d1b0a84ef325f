-- A reply without a payload takes 100 octets at most.
use Rattle.std.proofs.Common.{◌≡◌, ◌≤◌, [], length, ap, arith}
use Rattle.ip_wire.specs.declared.repr.IpRepr.{IpRepr}
use Rattle.ip_wire.specs.declared.repr.IpRepr.TheVariants as header
use Rattle.control_wire.specs.Fits.{FitsPacket}
use Rattle.control_wire.specs.Segment.{Segment}
use Rattle.net_host.specs.Wire.{IsCounted, packet_len}

pub bare_len : (ip : IpRepr) (s : Segment) → FitsPacket ip s → s.payload ≡ [] → packet_len ip ≤ 100
bare_len (header.Ipv4 h) s fits e = let n : length s.payload ≡ 0 = ap length e in omega (arith, fits.octets, fits.header.options)
bare_len (header.Ipv6 h) s fits e = let n : length s.payload ≡ 0 = ap length e in omega (arith, fits.octets, fits.header.options)

pub counted : (ip : IpRepr) (s : Segment) → FitsPacket ip s → IsCounted ip s
counted ip s fits = record { header = omega (arith, fits.header.options); octets = fits.octets; protocol = fits.protocol }
