use Rattle.segment_wire.proofs.PacketTrips.{tcp_back, udp_back}
use Rattle.segment_wire.proofs.round_trips.packets_read_back.Goals as goal

pub returns-clause-tcp : goal.returns-clause-tcp
returns-clause-tcp c sender receiver ip s rest is p l w t =
    tcp_back c.ipv4_reads_back.ensures c.ipv6_reads_back.ensures c.checksums_verify.ensures c.sums_are_words.ensures sender receiver ip is t rest s p l w

pub returns-clause-udp : goal.returns-clause-udp
returns-clause-udp c sender receiver ip u payload rest is p l w t =
    udp_back c.ipv4_reads_back.ensures c.ipv6_reads_back.ensures c.checksums_verify.ensures c.sums_are_words.ensures sender receiver ip is t rest c.ones_verify_for_zero.ensures u payload p l w
