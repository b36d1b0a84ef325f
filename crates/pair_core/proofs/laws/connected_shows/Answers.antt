use Rattle.pair_core.proofs.ShownCalls.{connected_shows}
use Rattle.pair_core.proofs.laws.connected_shows.Goals as goal

pub returns : goal.returns
returns c = connected_shows
