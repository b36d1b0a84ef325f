use Rattle.progress_laws.proofs.Handshakes.{listener_answers_syn}
use Rattle.progress_laws.proofs.listener_answers_syn.Goals as goal

pub returns : goal.returns
returns c = listener_answers_syn
