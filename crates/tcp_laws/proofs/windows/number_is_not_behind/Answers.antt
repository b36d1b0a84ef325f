use Rattle.tcp_laws.proofs.OwnWindows.{number_is_not_behind}
use Rattle.tcp_laws.proofs.windows.number_is_not_behind.Goals as goal

pub returns : goal.returns
returns c = number_is_not_behind
