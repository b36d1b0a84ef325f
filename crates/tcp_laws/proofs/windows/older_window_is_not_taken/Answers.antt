use Rattle.tcp_laws.proofs.OlderWindows.{older_window_is_not_taken}
use Rattle.tcp_laws.proofs.windows.older_window_is_not_taken.Goals as goal

pub returns : goal.returns
returns c = older_window_is_not_taken
