use Rattle.tcp_laws.proofs.LossFollows.{scoreboard_follows}
use Rattle.tcp_laws.proofs.loss.scoreboard_follows_segments.Goals as goal

pub returns : goal.returns
returns c = scoreboard_follows
