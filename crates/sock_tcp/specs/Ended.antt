-- Why a connection ended.
use Rattle.std.specs.Prelude.{Option, Some, None, Result, is_ok, Bool, true, false, if◌then◌else◌}
use Rattle.control_wire.specs.declared.tcp.TcpControl.{TcpControl}
use Rattle.control_wire.specs.declared.tcp.TcpControl.TheVariants as control
use Rattle.sock_tcp.specs.declared.ended.Ended.{Ended}
use Rattle.sock_tcp.specs.declared.ended.Ended.TheVariants as ends
use Rattle.sock_tcp.specs.declared.state.State.{State}
use Rattle.sock_tcp.specs.declared.state.State.TheVariants as state

-- by what a segment with this control bit does in this state: an RST, or the acknowledgement of the last FIN
abbrev pub end_heard : State → TcpControl → Ended
end_heard state.SynSent control.Rst = ends.Refused
end_heard _ control.Rst = ends.Reset
end_heard _ _ = ends.Finished

-- e: what was told before
abbrev pub ended_by_segment : State → TcpControl → State → Option Ended → Option Ended
ended_by_segment state.Closed c state.Closed e = e
ended_by_segment before c state.Closed e = Some (end_heard before c)
ended_by_segment before c after e = e

-- by what the moments and the addresses do in this state: TIME-WAIT is over, the user timeout, which counts from a
-- moment at which the peer was heard, or the own address is gone, of which a reset remembers no such moment
abbrev pub end_met : State → Bool → Ended
end_met state.TimeWait heard = ends.Finished
end_met _ true = ends.TimedOut
end_met _ false = ends.Unaddressable

abbrev pub ended_by_dispatch : State → State → Bool → Option Ended → Option Ended
ended_by_dispatch state.Closed state.Closed heard e = e
ended_by_dispatch before state.Closed heard e = Some (end_met before heard)
ended_by_dispatch before after heard e = e

-- in LISTEN and SYN-SENT a close ends it
abbrev pub ended_by_close : State → Option Ended → Option Ended
ended_by_close state.Listen e = Some ends.Aborted
ended_by_close state.SynSent e = Some ends.Aborted
ended_by_close before e = e

-- an abort ends what has not ended
abbrev pub ended_by_abort : State → Option Ended → Option Ended
ended_by_abort state.Closed e = e
ended_by_abort before e = Some ends.Aborted

-- opening it begins anew, and a refusal changes nothing
abbrev pub ended_by_opening : {R E : Type 0} → Result R E → Option Ended → Option Ended
ended_by_opening r e = if is_ok r then None else e
