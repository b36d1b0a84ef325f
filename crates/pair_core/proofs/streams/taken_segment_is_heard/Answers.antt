use Rattle.pair_core.proofs.StreamCut.{takes_hears}
use Rattle.pair_core.proofs.streams.taken_segment_is_heard.Goals as goal

pub returns : goal.returns
returns c = takes_hears
