use Rattle.progress_laws.proofs.ClosingAll.{closed_sender_finishes}
use Rattle.progress_laws.proofs.closed_sender_finishes.Goals as goal

pub returns : goal.returns
returns c = closed_sender_finishes
