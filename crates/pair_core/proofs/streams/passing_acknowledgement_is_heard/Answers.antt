use Rattle.pair_core.proofs.StreamTables.{passes_heard}
use Rattle.pair_core.proofs.streams.passing_acknowledgement_is_heard.Goals as goal

pub returns : goal.returns
returns c = λ v w g bounds passes. passes_heard v w g bounds passes
