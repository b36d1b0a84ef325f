use Rattle.progress_laws.proofs.BothFinish.{both_ways_finish}
use Rattle.progress_laws.proofs.both_ways_finish.Goals as goal

pub returns : goal.returns
returns c = both_ways_finish
