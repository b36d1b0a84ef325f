use Rattle.pair_core.proofs.ShownDispatch.{begun_shows}
use Rattle.pair_core.proofs.laws.begun_shows.Goals as goal

pub returns : goal.returns
returns c = begun_shows
