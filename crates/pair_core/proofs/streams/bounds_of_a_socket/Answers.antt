use Rattle.pair_core.proofs.NetworkDeliveries.{sending_bounds, nothing_received}
use Rattle.pair_core.proofs.streams.bounds_of_a_socket.Goals as goal

pub returns : goal.returns
returns c = record { sending = sending_bounds; receiving = nothing_received }
