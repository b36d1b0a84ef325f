use Rattle.tcp_laws.proofs.OwnWindows.{right_edge_stays}
use Rattle.tcp_laws.proofs.windows.right_edge_stays.Goals as goal

pub returns : goal.returns
returns c = right_edge_stays
