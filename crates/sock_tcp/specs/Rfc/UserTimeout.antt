-- The user timeout by the RFCs' rules (RFC 9293, sections 3.8.3 and 3.9.1.1; RFC 5482).
use Rattle.std.specs.Prelude.{◌+◌, ◌^◌, min, length, Option, Some, None, Bool, true, false, not, ◌==◌, if◌then◌else◌}
use Rattle.net_base.specs.declared.time.Duration.{Duration}
use Rattle.sock_tcp.specs.View.{View}
use Rattle.sock_tcp.specs.declared.rules.Rules.{Rules}
use Rattle.sock_tcp.specs.declared.rules.Rules.TheVariants as rules
use Rattle.sock_tcp.specs.declared.state.State.{State}
use Rattle.sock_tcp.specs.declared.state.State.TheVariants as state

-- ---- where the owner has set none

-- the global default of RFC 9293, section 3.9.1.1, which is above the limits on retransmissions of section 3.8.3: 100
-- seconds, and three minutes of a SYN
abbrev pub usual_timeout : Duration
usual_timeout = record { micros = 300000000 }

-- once these rules are chosen
abbrev pub timeout_chosen : Rules → Option Duration → Option Duration
timeout_chosen rules.Rfc None = Some usual_timeout
timeout_chosen r d = d

-- ---- when it runs

-- something is not acknowledged, by state and whether the transmit queue is empty: a SYN, bytes or a FIN
abbrev pub owes_ack : State → Bool → Bool
owes_ack state.SynSent empty = true
owes_ack state.SynReceived empty = true
owes_ack state.Established empty = not empty
owes_ack state.CloseWait empty = not empty
owes_ack state.FinWait1 empty = true
owes_ack state.Closing empty = true
owes_ack state.LastAck empty = true
owes_ack _ empty = false

-- else keep-alives go out in these states
abbrev pub may_be_idle : State → Bool
may_be_idle state.Established = true
may_be_idle state.CloseWait = true
may_be_idle state.FinWait2 = true
may_be_idle _ = false

-- an idle peer owes the answer to a keep-alive, the first of which goes out after an interval; no time is longer than
-- 2^61 microseconds
abbrev pub idle_timeout : Option Duration → Option Duration → Option Duration
idle_timeout (Some d) (Some interval) = Some (record { micros = min (interval.micros + d.micros) (2 ^ 61) })
idle_timeout d interval = None

-- by smoltcp's rules always, by the RFCs' while something is owed
unfoldable pub timeout_by : Rules → State → Bool → Option Duration → Option Duration → Option Duration
timeout_by rules.Smoltcp st empty d interval = d
timeout_by rules.Rfc st empty d interval =
    if owes_ack st empty then d else (if may_be_idle st then idle_timeout d interval else None)

-- how long the peer may be silent
abbrev pub timeout_of : View → Option Duration
timeout_of v = timeout_by v.rules v.state (length v.tx_buffer.bytes == 0) v.timeout v.keep_alive

-- ---- from when on it counts

-- a close with an empty queue sends a FIN, whose acknowledgement is waited for from the next dispatch on, as that of
-- the first bytes (`last_ts_after`)
abbrev pub begins_waiting : Rules → State → Bool → Bool
begins_waiting rules.Rfc state.Established empty = empty
begins_waiting rules.Rfc state.CloseWait empty = empty
begins_waiting r st empty = false
