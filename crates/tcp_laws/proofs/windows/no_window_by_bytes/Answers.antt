use Rattle.tcp_laws.proofs.OwnWindows.{no_window_by_bytes}
use Rattle.tcp_laws.proofs.windows.no_window_by_bytes.Goals as goal

pub returns : goal.returns
returns c = no_window_by_bytes
