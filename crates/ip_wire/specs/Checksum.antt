-- Which checksums are tested on receipt and computed before sending.
use Rattle.std.specs.Prelude.{Bool, true, false}
use Rattle.ip_wire.specs.declared.checksum.Checksum.{Checksum}
use Rattle.ip_wire.specs.declared.checksum.Checksum.TheVariants as checksum
use Rattle.ip_wire.specs.declared.checksum.ChecksumCapabilities.{ChecksumCapabilities}

abbrev pub is_received : Checksum → Bool
is_received checksum.Both = true
is_received checksum.Rx = true
is_received checksum.Tx = false
is_received checksum.None = false

abbrev pub is_sent : Checksum → Bool
is_sent checksum.Both = true
is_sent checksum.Rx = false
is_sent checksum.Tx = true
is_sent checksum.None = false

abbrev pub all_checksums : Checksum → ChecksumCapabilities
all_checksums c = record { ipv4 = c; udp = c; tcp = c; icmpv4 = c; icmpv6 = c }
