-- What a moment answers as the context of a call.
use Rattle.std.specs.Prelude.{None, false, replicate}
use Rattle.ip_wire.specs.declared.checksum.Checksum.TheVariants as checksum
use Rattle.sock_core.specs.Facts.{Facts}
use Rattle.pair_core.specs.declared.moment.Moment.{Moment}

abbrev pub facts_of : Moment → Facts
facts_of m =
    record {
      now = m.now.micros;
      mtu = m.ip_mtu;
      has_address = λ _. m.has_address;
      source = λ _. None;
      source_ipv4 = λ _. None;
      source_ipv6 = λ _. record { 0 = replicate 16 0 };
      broadcast = λ _. false;
      checksums =
          record {
            ipv4 = checksum.Both;
            udp = checksum.Both;
            tcp = checksum.Both;
            icmpv4 = checksum.Both;
            icmpv6 = checksum.Both;
          };
    }
