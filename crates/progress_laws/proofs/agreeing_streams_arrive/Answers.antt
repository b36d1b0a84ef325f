use Rattle.progress_laws.proofs.Streams.{agreeing_streams_arrive}
use Rattle.progress_laws.proofs.agreeing_streams_arrive.Goals as goal

pub returns : goal.returns
returns c = agreeing_streams_arrive
