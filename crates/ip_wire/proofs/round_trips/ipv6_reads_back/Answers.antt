use Rattle.ip_wire.proofs.RoundTrips.{ipv6_whole}
use Rattle.ip_wire.proofs.round_trips.ipv6_reads_back.Goals as goal

pub returns : goal.returns
returns c = ipv6_whole
