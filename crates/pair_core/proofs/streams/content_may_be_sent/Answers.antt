use Rattle.pair_core.proofs.StreamTables.{content_sent}
use Rattle.pair_core.proofs.streams.content_may_be_sent.Goals as goal

pub returns : goal.returns
returns c = content_sent
