use Rattle.pair_core.proofs.ShownCalls.{read_shows}
use Rattle.pair_core.proofs.laws.read_shows.Goals as goal

pub returns : goal.returns
returns c = read_shows
