use Rattle.ip_wire.proofs.RoundTrips.{ipv4_whole}
use Rattle.ip_wire.proofs.round_trips.ipv4_reads_back.Goals as goal

pub returns : goal.returns
returns c = ipv4_whole
