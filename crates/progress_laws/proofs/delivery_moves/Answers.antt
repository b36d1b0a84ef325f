use Rattle.progress_laws.proofs.Answered.{delivery_moves}
use Rattle.progress_laws.proofs.delivery_moves.Goals as goal

pub returns : goal.returns
returns c = delivery_moves
