use Rattle.ip_wire.proofs.RoundTrips.{filled}
use Rattle.ip_wire.proofs.round_trips.filled_checksum_verifies.Goals as goal

pub returns : goal.returns
returns c = filled
