use Rattle.tcp_laws.proofs.OwnWindows.{keep_alive_moves_no_edge}
use Rattle.tcp_laws.proofs.windows.keep_alive_moves_no_edge.Goals as goal

pub returns : goal.returns
returns c = keep_alive_moves_no_edge
