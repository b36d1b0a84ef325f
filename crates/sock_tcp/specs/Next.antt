-- What a dispatch does next, and why: what comes before the reasons to emit, and then those, in their order.
use Rattle.std.specs.Prelude.{ℕ, List, length, codes, Option, Some, None, Bool, true, false, not, ◌==◌, ◌&&◌}
use Rattle.std.specs.Prelude.{if◌then◌else◌}
use Rattle.net_base.specs.declared.time.Duration.{Duration}
use Rattle.net_base.specs.declared.time.Instant.{Instant}
use Rattle.control_wire.specs.Seq.{seq_add, seq_eq}
use Rattle.sock_core.specs.Facts.{Facts}
use Rattle.sock_core.specs.declared.context.PollAt.{PollAt}
use Rattle.sock_tcp.specs.Begin.{is_paused}
use Rattle.sock_tcp.specs.Due.{effective_mss, flight, held_poll, is_closed, is_closing, is_held_back, is_opening}
use Rattle.sock_tcp.specs.Due.{sendable, window_doubled}
use Rattle.sock_tcp.specs.Poll.{poll_moment}
use Rattle.sock_tcp.specs.Polls.{is_reached, timeout_poll}
use Rattle.sock_tcp.specs.Rfc.TailLoss.{probes_tail}
use Rattle.sock_tcp.specs.Rfc.UserTimeout.{timeout_of}
use Rattle.sock_tcp.specs.Timers.{is_close_over, is_keep_alive_over, is_over}
use Rattle.sock_tcp.specs.View.{View, moment_of}
use Rattle.sock_tcp.specs.declared.next.Reason.{Reason}
use Rattle.sock_tcp.specs.declared.next.Reason.TheVariants as reason
use Rattle.sock_tcp.specs.declared.timer.Timer.{Timer}
use Rattle.sock_tcp.specs.declared.timer.Timer.TheVariants as timer
use Rattle.sock_tcp.specs.declared.tuple.Tuple.{Tuple}

-- ---- the reasons to emit; without one, what the socket waits for

abbrev pub waiting_reason : View → Instant → PollAt → Reason
waiting_reason v now poll = if is_close_over v.timer now then reason.TimeWaitOver else reason.Waits poll

abbrev pub timed_reason : View → Instant → PollAt → Reason
timed_reason v now poll =
    if is_reached (held_poll v) now then reason.Delayed
    else (if window_doubled v then reason.WindowUpdate
    else (if is_keep_alive_over v.timer now then reason.KeepAlive
    else waiting_reason v now poll))

abbrev pub has_fin : View → Bool
has_fin v = is_closing v.state && seq_eq v.remote_last_seq (seq_add v.local_seq_no (length v.tx_buffer.bytes))

-- with segments of up to so many bytes
abbrev pub due_reason : View → ℕ → Instant → PollAt → Reason
due_reason v mss now poll =
    if is_closed v.state then reason.Reset
    else (if v.pending_fast_retransmit && not (length v.tx_buffer.bytes == 0) then reason.Retransmission
    else (if not (sendable v == 0) && not (is_held_back v mss) then reason.Data
    else (if is_opening v.state && (flight v == 0) then reason.Syn
    else (if has_fin v then reason.Fin
    else timed_reason v now poll))))

abbrev pub unpaused_reason : View → ℕ → Instant → PollAt → Reason
unpaused_reason v mss now poll =
    if is_paused v.state v.synack_paused then reason.Paused else due_reason v mss now poll

-- ---- what comes before them

abbrev pub timer_reason : Timer → View → ℕ → Instant → PollAt → Reason
timer_reason (timer.Retransmit t) v mss now poll =
    if is_over t now then reason.RetransmissionTimeout else unpaused_reason v mss now poll
timer_reason timer.FastRetransmit v mss now poll = reason.FastRetransmission
timer_reason (timer.ZeroWindowProbe t delay) v mss now poll =
    if is_over t now then reason.WindowProbe else unpaused_reason v mss now poll
timer_reason _ v mss now poll = unpaused_reason v mss now poll

-- the moment of the last segment, or now, where it was forgotten
abbrev pub last_or : Option Instant → Instant → Instant
last_or None now = now
last_or (Some last) now = last

abbrev pub is_timed_out : View → Instant → Bool
is_timed_out v now = is_reached (timeout_poll (timeout_of v) (Some (last_or v.remote_last_ts now))) now

unfoldable pub reason_by : View → ℕ → Instant → PollAt → Reason
reason_by v mss now poll =
    if is_timed_out v now then reason.UserTimeout
    else (if probes_tail v now then reason.TailLossProbe
    else timer_reason v.timer v mss now poll)

abbrev pub reason_to : Option Tuple → View → Facts → Reason
reason_to None v f = reason.NoPeer
reason_to (Some t) v f =
    if f.has_address t.local.addr then reason_by v (effective_mss v t f) (moment_of f) (poll_moment v f)
    else reason.AddressGone

unfoldable pub reason_of : View → Facts → Reason
reason_of v f = reason_to v.tuple v f

-- ---- its text

abbrev pub reason_text : Reason → List ℕ
reason_text reason.NoPeer = codes "no connection"
reason_text reason.AddressGone = codes "local address gone"
reason_text reason.UserTimeout = codes "user timeout"
reason_text reason.TailLossProbe = codes "tail-loss probe"
reason_text reason.RetransmissionTimeout = codes "retransmission timeout"
reason_text reason.FastRetransmission = codes "fast retransmission"
reason_text reason.WindowProbe = codes "window probe"
reason_text reason.Paused = codes "SYN|ACK paused"
reason_text reason.Reset = codes "RST of a closed socket"
reason_text reason.Retransmission = codes "retransmission"
reason_text reason.Data = codes "data"
reason_text reason.Syn = codes "SYN"
reason_text reason.Fin = codes "FIN"
reason_text reason.Delayed = codes "acknowledgement or data whose delay is over"
reason_text reason.WindowUpdate = codes "window update"
reason_text reason.KeepAlive = codes "keep-alive"
reason_text reason.TimeWaitOver = codes "TIME-WAIT is over"
reason_text (reason.Waits poll) = codes "waits"
