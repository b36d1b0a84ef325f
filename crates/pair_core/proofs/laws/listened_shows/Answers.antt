use Rattle.pair_core.proofs.ShownCalls.{listened_shows}
use Rattle.pair_core.proofs.laws.listened_shows.Goals as goal

pub returns : goal.returns
returns c = listened_shows
