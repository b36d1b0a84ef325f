use Rattle.progress_laws.proofs.Handshakes.{handshake_brings_in_step}
use Rattle.progress_laws.proofs.handshake_brings_in_step.Goals as goal

pub returns : goal.returns
returns c = handshake_brings_in_step
