use Rattle.progress_laws.proofs.ShutRounds.{shut_windows_open}
use Rattle.progress_laws.proofs.shut_windows_open.Goals as goal

pub returns : goal.returns
returns c = shut_windows_open
