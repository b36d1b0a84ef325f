use Rattle.pair_core.proofs.StreamTables.{ack_distance}
use Rattle.pair_core.proofs.streams.acknowledgement_in_range.Goals as goal

pub returns : goal.returns
returns c = ack_distance
