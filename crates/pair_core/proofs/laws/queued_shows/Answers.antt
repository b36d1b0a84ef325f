use Rattle.pair_core.proofs.ShownCalls.{queued_shows}
use Rattle.pair_core.proofs.laws.queued_shows.Goals as goal

pub returns : goal.returns
returns c = queued_shows
