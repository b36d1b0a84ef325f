use Rattle.sock_core.proofs.Renos.{holds_a_segment}
use Rattle.sock_core.proofs.congestion.window_holds_a_segment.Goals as goal

pub returns : goal.returns
returns c = holds_a_segment
