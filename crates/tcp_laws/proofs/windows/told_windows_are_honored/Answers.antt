use Rattle.tcp_laws.proofs.Honored.{told_windows_are_honored}
use Rattle.tcp_laws.proofs.windows.told_windows_are_honored.Goals as goal

pub returns : goal.returns
returns c = told_windows_are_honored
