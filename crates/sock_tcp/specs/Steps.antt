-- What the steps of `process` behind the state table change, in their order.
use Rattle.std.specs.Prelude.{ℕ, ◌+◌, ◌-◌, ◌*◌, ◌^◌, List, length, min, Option, Some, None, Bool, true, false, not}
use Rattle.std.specs.Prelude.{◌==◌, ◌&&◌, ◌||◌, if◌then◌else◌}
use Rattle.net_base.specs.declared.time.Duration.{Duration}
use Rattle.net_base.specs.declared.time.Instant.{Instant}
use Rattle.control_wire.specs.Seq.{seq_add, seq_eq}
use Rattle.control_wire.specs.Segment.{Segment}
use Rattle.control_wire.specs.declared.seq_number.TcpSeqNumber.{TcpSeqNumber}
use Rattle.control_wire.specs.declared.tcp.TcpControl.{TcpControl}
use Rattle.control_wire.specs.declared.tcp.TcpControl.TheVariants as control
use Rattle.control_wire.specs.declared.tcp.TcpTimestampRepr.{TcpTimestampRepr}
use Rattle.sock_core.specs.Congestion as congestion
use Rattle.sock_core.specs.Estimator as estimator
use Rattle.sock_core.specs.Seq.{is_before, is_not_after, later_of}
use Rattle.sock_core.specs.Received.{taken_in}
use Rattle.sock_tcp.specs.Due.{flight}
use Rattle.sock_tcp.specs.Queue.{shortened}
use Rattle.sock_tcp.specs.Rfc.Windows.{wl1_by, wl2_by}
pub use Rattle.sock_tcp.specs.Scale.{scale_of}
use Rattle.sock_tcp.specs.Timers.{after, idle_from, retransmit_from, probe_from, is_idle}
use Rattle.sock_tcp.specs.View.{View}
use Rattle.sock_tcp.specs.Window.{next_ack}
use Rattle.sock_tcp.specs.declared.acked.Acked.{Acked}
use Rattle.sock_tcp.specs.declared.rules.Rules.{Rules}
use Rattle.sock_tcp.specs.declared.rules.Rules.TheVariants as rules
use Rattle.sock_tcp.specs.declared.timer.AckDelayTimer.{AckDelayTimer}
use Rattle.sock_tcp.specs.declared.timer.AckDelayTimer.TheVariants as ack_delay
use Rattle.sock_tcp.specs.declared.timer.Timer.{Timer}
use Rattle.sock_tcp.specs.declared.timer.Timer.TheVariants as timer

-- ---- the peer's window

-- the window of a SYN is not shifted
abbrev pub window_of : TcpControl → ℕ → Option ℕ → ℕ
window_of control.Syn w scale = w
window_of _ w scale = w * 2 ^ scale_of scale

unfoldable pub window_taken : View → Instant → TcpControl → ℕ → View
window_taken v now c w =
    record v {
      remote_last_ts = Some now;
      remote_win_len = window_of c w v.remote_win_scale;
      congestion_controller =
          congestion.with_remote_window v.congestion_controller (window_of c w v.remote_win_scale);
    }

-- whether a segment's window is another than the one that was known
abbrev pub is_window_changed : View → TcpControl → ℕ → Bool
is_window_changed v c w = not (window_of c w v.remote_win_scale == v.remote_win_len)

-- ---- the acknowledged bytes leave

unfoldable pub released : View → ℕ → View
released v n = record v { tx_buffer = shortened v.tx_buffer n }

-- ---- duplicates, and SND.UNA

abbrev pub is_last_ack : Option TcpSeqNumber → TcpSeqNumber → Bool
is_last_ack None ack = false
is_last_ack (Some last) ack = seq_eq last ack

-- the acknowledgement says nothing new: the last one again, with no payload of n bytes and the same window, while
-- something is in flight
abbrev pub is_duplicate : View → TcpSeqNumber → ℕ → Bool → Bool
is_duplicate v ack n changed =
    is_last_ack v.local_rx_last_ack ack && (is_before ack v.remote_last_seq && ((n == 0) && not changed))

-- the third calls for a fast retransmission
unfoldable pub duplicate_counted : View → Instant → View
duplicate_counted v now =
    record v {
      local_rx_dup_acks = min (v.local_rx_dup_acks + 1) 255;
      timer = if v.local_rx_dup_acks == 2 then timer.FastRetransmit else v.timer;
      congestion_controller = congestion.dup_acked v.congestion_controller now v.remote_mss (flight v);
    }

-- n bytes are acknowledged
unfoldable pub ack_counted : View → Instant → TcpSeqNumber → ℕ → View
ack_counted v now ack n =
    record v {
      local_rx_dup_acks = 0;
      local_rx_last_ack = Some ack;
      rtte = estimator.acked v.rtte now ack;
      congestion_controller =
          congestion.acked v.congestion_controller now n (flight v - n) (estimator.acked v.rtte now ack);
    }

unfoldable pub una_advanced : View → TcpSeqNumber → View
una_advanced v ack = record v { local_seq_no = ack; remote_last_seq = later_of v.remote_last_seq ack }

abbrev pub ack_heard : Bool → View → Instant → TcpSeqNumber → ℕ → View
ack_heard true v now ack n = una_advanced (duplicate_counted v now) ack
ack_heard false v now ack n = una_advanced (ack_counted v now ack n) ack

-- an acknowledgement of n bytes, on a segment with so many bytes of payload
abbrev pub acknowledged_by : Option TcpSeqNumber → View → Instant → ℕ → ℕ → Bool → View
acknowledged_by None v now n payload changed = v
acknowledged_by (Some ack) v now n payload changed = ack_heard (is_duplicate v ack payload changed) v now ack n

unfoldable pub acknowledged : View → Option TcpSeqNumber → Instant → ℕ → ℕ → Bool → View
acknowledged v ack now n payload changed = acknowledged_by ack v now n payload changed

-- ---- the timestamp, and what told the window

abbrev pub tsval_of : ℕ → Option TcpTimestampRepr → ℕ
tsval_of old None = old
tsval_of old (Some t) = t.tsval

-- its number lies not behind the acknowledgement that was sent last, or it is a SYN
abbrev pub moves_recent : TcpControl → Option TcpSeqNumber → TcpSeqNumber → Bool
moves_recent control.Syn last number = true
moves_recent c None number = true
moves_recent c (Some last) number = is_not_after number last

-- TS.Recent: by smoltcp's rules of any segment, by the RFCs' of those that move it (RFC 7323, section 4.3)
abbrev pub recent_by : Rules → View → Segment → ℕ
recent_by rules.Smoltcp v s = tsval_of v.last_remote_tsval s.timestamp
recent_by rules.Rfc v s =
    if moves_recent s.control v.remote_last_ack s.seq_number then tsval_of v.last_remote_tsval s.timestamp
    else v.last_remote_tsval

-- TS.Recent, and which segment told the window
unfoldable pub timestamp_taken : View → Segment → View
timestamp_taken v s =
    record v {
      last_remote_tsval = recent_by v.rules v s;
      snd_wl1 = wl1_by v.rules v.snd_wl1 v.snd_wl2 s;
      snd_wl2 = wl2_by v.rules v.snd_wl1 v.snd_wl2 s;
    }

-- ---- the timer

-- the acknowledgement of all that was sent ends a retransmission, that of some of it starts it anew
abbrev pub retransmission_acked : Timer → View → Instant → Acked → Timer
retransmission_acked t v now a =
    if a.all then idle_from now v.keep_alive else (if a.len == 0 then t else retransmit_from now v.rtte)

abbrev pub timer_acked : Timer → View → Instant → Acked → Timer
timer_acked (timer.Idle at) v now a = idle_from now v.keep_alive
timer_acked (timer.Retransmit at) v now a = retransmission_acked (timer.Retransmit at) v now a
timer_acked timer.FastRetransmit v now a = retransmission_acked timer.FastRetransmit v now a
timer_acked t v now a = t

-- by the RFCs' rules the interval of probes goes on to double where the byte of one is acknowledged (RFC 9293, section
-- 3.8.6.1)
abbrev pub goes_on_probing : Rules → Timer → Bool
goes_on_probing rules.Rfc (timer.ZeroWindowProbe at delay) = true
goes_on_probing r t = false

-- while the peer has no window, probes begin
abbrev pub begins_probe : Timer → View → Acked → Bool
begins_probe t v a =
    not (length v.tx_buffer.bytes == 0) && (is_idle t || (not (a.len == 0) && not (goes_on_probing v.rules t)))

-- a window ends the probes
abbrev pub probe_ended : Timer → View → Instant → Timer
probe_ended (timer.ZeroWindowProbe at delay) v now = idle_from now v.keep_alive
probe_ended t v now = t

abbrev pub probe_set : Timer → View → Instant → Acked → Timer
probe_set t v now a =
    if v.remote_win_len == 0 then (if begins_probe t v a then probe_from now v.rtte else t)
    else probe_ended t v now

unfoldable pub timer_set : View → Instant → Acked → View
timer_set v now a = record v { timer = probe_set (timer_acked v.timer v now a) v now a }

-- ---- the steps behind the state table, up to the timer

-- the last three: once the acknowledged bytes have left
abbrev pub counted : View → Bool → Instant → Acked → Segment → View
counted v changed now a s =
    timer_set (timestamp_taken (acknowledged v s.ack_number now a.len (length s.payload) changed) s) now a

unfoldable pub heard : View → Instant → Acked → Segment → View
heard v now a s =
    counted (released (window_taken v now s.control s.window_len) a.len) (is_window_changed v s.control s.window_len)
    now a s

-- ---- the bytes join the queue, or are held

-- bs, whose first byte lies o past RCV.NXT
unfoldable pub joined : View → ℕ → List ℕ → View
joined v o bs = record v { rx_buffer = taken_in v.rx_buffer o bs }

-- ---- the delayed acknowledgement

-- the last acknowledgement sent, and n bytes behind it, lie before RCV.NXT
abbrev pub is_ack_owed : Option TcpSeqNumber → ℕ → TcpSeqNumber → Bool
is_ack_owed None n next = false
is_ack_owed (Some ack) n next = is_before (seq_add ack n) next

-- more than a segment is unacknowledged: by smoltcp's rules one of the largest that the peer takes; by the RFCs' any
-- other than the first that came, as the peer's segments may be smaller (RFC 5681, section 4.2)
abbrev pub is_second : Rules → View → Bool
is_second rules.Smoltcp v = is_ack_owed v.remote_last_ack v.remote_mss (next_ack v)
is_second rules.Rfc v = true

-- an acknowledgement may wait so long, but not once more than a segment is unacknowledged
abbrev pub next_delay : AckDelayTimer → View → Instant → Duration → AckDelayTimer
next_delay ack_delay.Idle v now d = ack_delay.Waiting (after now d)
next_delay (ack_delay.Waiting at) v now d =
    if is_second v.rules v then ack_delay.Immediate else ack_delay.Waiting at
next_delay ack_delay.Immediate v now d = ack_delay.Immediate

abbrev pub delay_of : Option Duration → View → Instant → AckDelayTimer
delay_of None v now = v.ack_delay_timer
delay_of (Some d) v now =
    if is_ack_owed v.remote_last_ack 0 (next_ack v) then next_delay v.ack_delay_timer v now d else v.ack_delay_timer

unfoldable pub ack_delayed : View → Instant → View
ack_delayed v now = record v { ack_delay_timer = delay_of v.ack_delay v now }
