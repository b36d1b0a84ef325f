use Rattle.control_wire.proofs.MessageTrips.{trip_v6}
use Rattle.control_wire.proofs.icmp_round_trips.icmpv6_reads_back.Goals as goal

pub returns : goal.returns
returns c = trip_v6 c.checksums_verify.ensures c.sums_are_words.ensures
