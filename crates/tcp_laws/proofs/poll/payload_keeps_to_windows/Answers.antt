use Rattle.tcp_laws.proofs.PayloadWindows.{payload_keeps_to_windows}
use Rattle.tcp_laws.proofs.poll.payload_keeps_to_windows.Goals as goal

pub returns : goal.returns
returns c = payload_keeps_to_windows
