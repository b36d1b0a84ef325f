use Rattle.progress_laws.proofs.BothRounds.{both_ways_complete}
use Rattle.progress_laws.proofs.both_ways_complete.Goals as goal

pub returns : goal.returns
returns c = both_ways_complete
