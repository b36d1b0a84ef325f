use Rattle.segment_wire.proofs.TcpTrips.{segment_back}
use Rattle.segment_wire.proofs.round_trips.tcp_reads_back.Goals as goal

pub returns : goal.returns
returns c = segment_back c.checksums_verify.ensures c.sums_are_words.ensures
