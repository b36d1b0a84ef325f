use Rattle.pair_core.proofs.StreamCut.{whole_hears}
use Rattle.pair_core.proofs.streams.whole_segment_is_heard.Goals as goal

pub returns : goal.returns
returns c = whole_hears
