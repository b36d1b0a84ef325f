-- `close` and `abort` (RFC 9293, sections 3.10.4 and 3.10.5), and the interval of keep-alives.
use Rattle.std.specs.Prelude.{length, Option, None, Bool, true, false, ◌==◌, if◌then◌else◌}
use Rattle.net_base.specs.declared.time.Duration.{Duration}
use Rattle.net_base.specs.declared.time.Instant.{Instant}
use Rattle.sock_tcp.specs.Rfc.UserTimeout.{begins_waiting}
use Rattle.sock_tcp.specs.Settings.{keep_alive_timer}
use Rattle.sock_tcp.specs.View.{View}
use Rattle.sock_tcp.specs.declared.rules.Rules.{Rules}
use Rattle.sock_tcp.specs.declared.rules.Rules.TheVariants as rules
use Rattle.sock_tcp.specs.declared.state.State.{State}
use Rattle.sock_tcp.specs.declared.state.State.TheVariants as state

-- what a close does to the state
abbrev pub closed_from : State → State
closed_from state.Listen = state.Closed
closed_from state.SynSent = state.Closed
closed_from state.SynReceived = state.FinWait1
closed_from state.Established = state.FinWait1
closed_from state.CloseWait = state.LastAck
closed_from st = st

-- by the RFCs' rules it waits in SYN-RECEIVED, as the SYN stands before the FIN
abbrev pub waits_in : State → Rules → Bool
waits_in state.SynReceived rules.Rfc = true
waits_in _ _ = false

abbrev pub closed_in : State → Rules → State
closed_in st r = if waits_in st r then st else closed_from st

-- by the RFCs' rules the peer's silence counts anew where the FIN is all that is waited for
abbrev pub last_ts_closed : View → Option Instant
last_ts_closed v =
    if begins_waiting v.rules v.state (length v.tx_buffer.bytes == 0) then None else v.remote_last_ts

abbrev pub closed : View → View
closed v =
    record v {
      state = closed_in v.state v.rules;
      close_waits = waits_in v.state v.rules;
      remote_last_ts = last_ts_closed v;
    }

-- one that waited is done once the state is another: the SYN is acknowledged, or an RST came
abbrev pub late_from : State → State
late_from state.SynReceived = state.SynReceived
late_from st = closed_from st

abbrev pub closed_late : View → View
closed_late v = record v { state = if v.close_waits then late_from v.state else v.state }

abbrev pub aborted : View → View
aborted v = record v { state = state.Closed }

abbrev pub keep_alive_set : View → Option Duration → View
keep_alive_set v interval = record v { keep_alive = interval; timer = keep_alive_timer interval v.timer }
