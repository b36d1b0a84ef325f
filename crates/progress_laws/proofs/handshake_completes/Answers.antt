use Rattle.progress_laws.proofs.Handshakes.{handshake_completes}
use Rattle.progress_laws.proofs.handshake_completes.Goals as goal

pub returns : goal.returns
returns c = handshake_completes
