use Rattle.tcp_laws.proofs.LossSaid.{tells_only_what_came}
use Rattle.tcp_laws.proofs.loss.scoreboard_tells_only_what_came.Goals as goal

pub returns : goal.returns
returns c = tells_only_what_came
