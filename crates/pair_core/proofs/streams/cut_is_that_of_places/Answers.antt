use Rattle.pair_core.proofs.StreamCut.{cut_places}
use Rattle.pair_core.proofs.streams.cut_is_that_of_places.Goals as goal

pub returns : goal.returns
returns c = cut_places
