-- What is asked of a segment before its acknowledgement, by the rules of the socket: nothing by smoltcp's; by the
-- RFCs', whether an RST has the number that it must have, whether a SYN comes to an open connection, whether what it
-- acknowledges was sent, and whether its timestamp is no older one.
use Rattle.std.specs.Prelude.{ℕ, ◌+◌, length, Option, Some, None, Bool, true, false, not, ◌==◌, ◌&&◌, if◌then◌else◌}
use Rattle.net_base.specs.declared.time.Duration.{Duration}
use Rattle.net_base.specs.declared.time.Instant.{Instant}
use Rattle.control_wire.specs.Segment.{Segment}
use Rattle.control_wire.specs.Seq.{seq_add, seq_eq, seq_of}
use Rattle.control_wire.specs.declared.seq_number.TcpSeqNumber.{TcpSeqNumber}
use Rattle.control_wire.specs.declared.tcp.TcpControl.{TcpControl}
use Rattle.control_wire.specs.declared.tcp.TcpControl.TheVariants as control
use Rattle.control_wire.specs.declared.tcp.TcpTimestampRepr.{TcpTimestampRepr}
use Rattle.sock_core.specs.Seq.{is_before}
use Rattle.sock_tcp.specs.Rfc.Recovery.{highest_of}
use Rattle.sock_tcp.specs.Rfc.Windows.{ack_heeded}
use Rattle.sock_tcp.specs.Timers.{after, is_over}
use Rattle.sock_tcp.specs.Verdict.{fin_place, verdict_of}
use Rattle.sock_tcp.specs.View.{View}
use Rattle.sock_tcp.specs.Window.{has_window, honored_window, starts_inside}
use Rattle.sock_tcp.specs.declared.advance.Next.{Next}
use Rattle.sock_tcp.specs.declared.advance.Next.TheVariants as next
use Rattle.sock_tcp.specs.declared.rules.Rules.{Rules}
use Rattle.sock_tcp.specs.declared.rules.Rules.TheVariants as rules
use Rattle.sock_tcp.specs.declared.state.State.{State}
use Rattle.sock_tcp.specs.declared.state.State.TheVariants as state
use Rattle.sock_tcp.specs.declared.timer.Timer.{Timer}
use Rattle.sock_tcp.specs.declared.timer.Timer.TheVariants as timer
use Rattle.sock_tcp.specs.declared.verdict.Verdict.{Verdict}
use Rattle.sock_tcp.specs.declared.verdict.Verdict.TheVariants as verdicts
use Rattle.sock_tcp.specs.declared.window.Window.{Window}

-- ---- an RST

-- it counts at RCV.NXT alone; elsewhere in the window it is challenged (RFC 5961, section 3.2)
abbrev pub rst_checked : Window → TcpSeqNumber → Next
rst_checked w number =
    if seq_eq number w.start then next.Continue
    else (if starts_inside w number then next.Challenge else next.Stop)

-- ---- timestamps (RFC 7323, sections 3.2 and 5)

-- t lies before TS.Recent, on the circle of 32 bits
abbrev pub is_older : ℕ → ℕ → Bool
is_older t recent = is_before (seq_of t) (seq_of recent)

-- for so long TS.Recent counts without a segment: 24 days
abbrev pub recent_life : Duration
recent_life = record { micros = 2073600000000 }

abbrev pub is_forgotten : Option Instant → Instant → Bool
is_forgotten None now = true
is_forgotten (Some t) now = is_over (after t recent_life) now

-- where timestamps were agreed, a segment with an older one is answered. One without is taken, though section 3.2 says
-- that it should be dropped: keep-alives of lwIP have none, and a peer whose keep-alives bring nothing ends the
-- connection
abbrev pub stamp_checked : View → Instant → Option TcpTimestampRepr → Next
stamp_checked v now None = next.Continue
stamp_checked v now (Some t) =
    if v.stamps && (is_older t.tsval v.last_remote_tsval && not (is_forgotten v.remote_last_ts now))
    then next.Challenge else next.Continue

-- ---- what was never sent (RFC 9293, section 3.10.7.4; RFC 5961, section 5.2)

-- SND.NXT does not count a probe: the byte at SND.UNA, with a FIN where that is the last one
abbrev pub probe_places : Timer → State → ℕ → ℕ
probe_places (timer.ZeroWindowProbe at delay) st queued = if queued == 1 then 1 + fin_place st else 1
probe_places t st queued = 0

-- the number behind all that was sent
abbrev pub sent_end : View → TcpSeqNumber
sent_end v =
    seq_add (highest_of v.recovery v.remote_last_seq) (probe_places v.timer v.state (length v.tx_buffer.bytes))

abbrev pub acks_unsent : Option TcpSeqNumber → TcpSeqNumber → Bool
acks_unsent None end_sent = false
acks_unsent (Some ack) end_sent = is_before end_sent ack

-- bytes that wait are not released by who guesses
abbrev pub ack_checked : View → Instant → Segment → Next
ack_checked v now s =
    if acks_unsent s.ack_number (sent_end v) then next.Challenge else stamp_checked v now s.timestamp

-- ---- by state and control bit

-- no RST ends TIME-WAIT (RFC 1337), and none needs a timestamp; a SYN is challenged, whatever its number, once the own
-- one is acknowledged (RFC 5961, section 4.2)
abbrev pub checked_in : State → TcpControl → View → Instant → Segment → Next
checked_in state.TimeWait control.Rst v now s = next.Stop
checked_in _ control.Rst v now s = rst_checked (honored_window v) s.seq_number
checked_in state.SynReceived control.Syn v now s = stamp_checked v now s.timestamp
checked_in _ control.Syn v now s = next.Challenge
checked_in state.SynReceived _ v now s = stamp_checked v now s.timestamp
checked_in _ _ v now s = ack_checked v now s

-- LISTEN and SYN-SENT ask nothing
unfoldable pub checked : View → Instant → Segment → Next
checked v now s = if has_window v.state then checked_in v.state s.control v now s else next.Continue

-- ---- the verdict

abbrev pub verdict_then : Next → View → Segment → Verdict
verdict_then next.Stop v s = verdicts.Drop
verdict_then next.Challenge v s = verdicts.Challenge
verdict_then next.Continue v s = verdict_of v s.control (ack_heeded rules.Rfc v s s.ack_number)

abbrev pub verdict_by : Rules → View → Instant → Segment → Verdict
verdict_by rules.Smoltcp v now s = verdict_of v s.control s.ack_number
verdict_by rules.Rfc v now s = verdict_then (checked v now s) v s
