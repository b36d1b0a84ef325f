use Rattle.progress_laws.proofs.Accepts.{sending_keeps_in_step}
use Rattle.progress_laws.proofs.sending_keeps_in_step.Goals as goal

pub returns : goal.returns
returns c = sending_keeps_in_step
