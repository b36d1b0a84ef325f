use Rattle.tcp_laws.proofs.Passing.{old_acknowledgement_passes}
use Rattle.tcp_laws.proofs.windows.old_acknowledgement_passes.Goals as goal

pub returns : goal.returns
returns c = old_acknowledgement_passes
