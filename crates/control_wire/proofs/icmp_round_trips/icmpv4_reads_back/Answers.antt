use Rattle.control_wire.proofs.MessageTrips.{trip_v4}
use Rattle.control_wire.proofs.icmp_round_trips.icmpv4_reads_back.Goals as goal

pub returns : goal.returns
returns c = trip_v4 c.checksums_verify.ensures
