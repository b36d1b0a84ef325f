use Rattle.tcp_laws.proofs.Below.{duplicates_below}
use Rattle.tcp_laws.proofs.loss.duplicates_below_change_no_loss.Goals as goal

pub returns : goal.returns
returns c = duplicates_below
