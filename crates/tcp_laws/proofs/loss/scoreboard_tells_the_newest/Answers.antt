use Rattle.tcp_laws.proofs.LossSaid.{tells_the_newest}
use Rattle.tcp_laws.proofs.loss.scoreboard_tells_the_newest.Goals as goal

pub returns : goal.returns
returns c = tells_the_newest
