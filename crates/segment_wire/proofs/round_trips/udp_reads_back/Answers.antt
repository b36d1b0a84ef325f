use Rattle.segment_wire.proofs.UdpTrips.{datagram_back}
use Rattle.segment_wire.proofs.round_trips.udp_reads_back.Goals as goal

pub returns : goal.returns
returns c = datagram_back c.checksums_verify.ensures c.ones_verify_for_zero.ensures c.sums_are_words.ensures
