use Rattle.tcp_laws.proofs.OwnWindows.{opened_window_is_told}
use Rattle.tcp_laws.proofs.windows.opened_window_is_told.Goals as goal

pub returns : goal.returns
returns c = opened_window_is_told
