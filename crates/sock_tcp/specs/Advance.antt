-- The state table of `process`.
use Rattle.std.specs.Prelude.{ℕ, max, min, Option, Some, None, is_some, Bool, true, false, ◌==◌, ◌&&◌, ◌||◌}
use Rattle.std.specs.Prelude.{if◌then◌else◌}
use Rattle.net_base.specs.declared.time.Instant.{Instant}
use Rattle.control_wire.specs.Seq.{seq_of, seq_add}
use Rattle.control_wire.specs.Segment.{Segment}
use Rattle.control_wire.specs.declared.seq_number.TcpSeqNumber.{TcpSeqNumber}
use Rattle.control_wire.specs.declared.tcp.TcpControl.{TcpControl}
use Rattle.control_wire.specs.declared.tcp.TcpControl.TheVariants as control
use Rattle.sock_core.specs.Congestion.{with_mss}
use Rattle.sock_core.specs.Seq.{is_before}
use Rattle.sock_core.specs.declared.congestion.AnyController.{AnyController}
use Rattle.sock_tcp.specs.Arrival.{Arrival}
use Rattle.sock_tcp.specs.Timers.{idle_from, close_from}
use Rattle.sock_tcp.specs.View.{View}
use Rattle.sock_tcp.specs.declared.acked.Acked.{Acked}
use Rattle.sock_tcp.specs.declared.advance.Next.{Next}
use Rattle.sock_tcp.specs.declared.advance.Next.TheVariants as next
use Rattle.sock_tcp.specs.declared.rules.Rules.{Rules}
use Rattle.sock_tcp.specs.declared.rules.Rules.TheVariants as rules
use Rattle.sock_tcp.specs.declared.state.State.{State}
use Rattle.sock_tcp.specs.declared.state.State.TheVariants as state
use Rattle.sock_tcp.specs.declared.tuple.Tuple.{Tuple}
use Rattle.sock_tcp.specs.declared.window.Window.{Window}

-- ---- the control bits that count

-- PSH counts as none, and so does a FIN that begins behind the left edge or ends behind the right one
unfoldable pub counted_control : TcpControl → Window → TcpSeqNumber → ℕ → TcpControl
counted_control control.Psh w number n = control.None
counted_control control.Fin w number n =
    if is_before w.start number || is_before w.end (seq_add number n) then control.None else control.Fin
counted_control c w number n = c

-- ---- the options of a SYN

-- an MSS of zero counts as absent
abbrev pub mss_taken : ℕ → Option ℕ → ℕ
mss_taken old None = old
mss_taken old (Some n) = if n == 0 then old else max n 48

abbrev pub controller_taken : AnyController → Option ℕ → AnyController
controller_taken old None = old
controller_taken old (Some n) = if n == 0 then old else with_mss old (max n 48)

abbrev pub scale_taken : Option ℕ → Option ℕ
scale_taken None = None
scale_taken (Some n) = Some (min n 14)

-- with no scale from the peer the own window is not shifted either
abbrev pub shift_taken : ℕ → Option ℕ → ℕ
shift_taken old None = 0
shift_taken old (Some n) = old

-- the options of a SYN, and its number; no timestamp in the SYN, no timestamps from us (RFC 7323, section 3.2)
unfoldable pub options_taken : View → Segment → View
options_taken v s =
    record v {
      remote_seq_no = seq_add s.seq_number 1;
      remote_mss = mss_taken v.remote_mss s.max_seg_size;
      congestion_controller = controller_taken v.congestion_controller s.max_seg_size;
      remote_has_sack = s.sack_permitted;
      remote_win_scale = scale_taken s.window_scale;
      remote_win_shift = shift_taken v.remote_win_shift s.window_scale;
      stamps = v.stamps && is_some s.timestamp;
    }

-- ---- what the rows do

-- a socket after the state table, and what comes next
pub record Advance : Type 0 where
  pub view : View
  pub next : Next

abbrev pub continues : View → Advance
continues v = record { view = v; next = next.Continue }

abbrev pub stops : View → Advance
stops v = record { view = v; next = next.Stop }

-- an RST in SYN-RECEIVED: a listener listens again
unfoldable pub fallen_back : View → View
fallen_back v =
    record v { state = if v.listen_endpoint.port == 0 then state.Closed else state.Listen; tuple = None }

abbrev pub dropped : View → View
dropped v = record v { state = state.Closed; tuple = None }

-- a SYN in LISTEN: the peer is known, and the own initial number is the word that was drawn
unfoldable pub syn_received : View → Instant → Tuple → ℕ → Segment → View
syn_received v now t word s =
    record (options_taken v s) {
      state = state.SynReceived;
      tuple = Some t;
      local_seq_no = seq_of word;
      remote_last_seq = seq_of word;
      timer = idle_from now v.keep_alive;
    }

-- where a SYN in SYN-SENT leads, which acknowledges the own one or not
abbrev pub opened_state : Option TcpSeqNumber → State
opened_state None = state.SynReceived
opened_state (Some ack) = state.Established

unfoldable pub syn_answered : View → Segment → View
syn_answered v s =
    record (options_taken v s) {
      state = opened_state s.ack_number;
      remote_last_seq = seq_add v.local_seq_no 1;
      remote_last_ack = Some s.seq_number;
    }

abbrev pub moved_to : State → View → View
moved_to st v = record v { state = st }

-- the FIN of the peer takes a number
unfoldable pub fin_counted : State → View → View
fin_counted st v = record v { state = st; remote_seq_no = seq_add v.remote_seq_no 1; rx_fin_received = true }

-- TIME-WAIT lasts from now on
abbrev pub waiting : Instant → View → View
waiting now v = record v { state = state.TimeWait; timer = close_from now }

-- ---- the table: by state, by the control bit that counts, and by whether the own FIN is acknowledged; RSTs first

-- LAST-ACK, with an acknowledgement of n bytes: by smoltcp's rules one of nothing new is challenged; by the RFCs' it is
-- heard as in the other states (RFC 9293, section 3.10.7.4)
abbrev pub nothing_new_by : Rules → Next
nothing_new_by rules.Smoltcp = next.Challenge
nothing_new_by rules.Rfc = next.Continue

abbrev pub last_ack_waits : View → ℕ → Advance
last_ack_waits v n = record { view = v; next = if n == 0 then nothing_new_by v.rules else next.Continue }

abbrev pub advance_in : State → TcpControl → Bool → View → Arrival → ℕ → Advance
advance_in state.SynReceived control.Rst fin v a n = stops (fallen_back v)
advance_in _ control.Rst fin v a n = stops (dropped v)
advance_in state.Listen control.Syn fin v a n = continues (syn_received v a.now a.peer a.word a.segment)
advance_in state.SynSent control.Syn fin v a n = continues (syn_answered v a.segment)
advance_in state.SynReceived control.None fin v a n = continues (moved_to state.Established v)
advance_in state.SynReceived control.Fin fin v a n = continues (fin_counted state.CloseWait v)
advance_in state.Established control.None fin v a n = continues v
advance_in state.Established control.Fin fin v a n = continues (fin_counted state.CloseWait v)
advance_in state.FinWait1 control.None true v a n = continues (moved_to state.FinWait2 v)
advance_in state.FinWait1 control.None false v a n = continues v
advance_in state.FinWait1 control.Fin true v a n = continues (waiting a.now (fin_counted state.TimeWait v))
advance_in state.FinWait1 control.Fin false v a n = continues (fin_counted state.Closing v)
advance_in state.FinWait2 control.None fin v a n = continues v
advance_in state.FinWait2 control.Fin fin v a n = continues (waiting a.now (fin_counted state.TimeWait v))
advance_in state.CloseWait control.None fin v a n = continues v
advance_in state.Closing control.None true v a n = continues (waiting a.now v)
advance_in state.Closing control.None false v a n = continues v
advance_in state.LastAck control.None true v a n = continues (dropped v)
advance_in state.LastAck control.None false v a n = last_ack_waits v n
advance_in _ _ fin v a n = stops v

-- with the control bit that counts, and what the acknowledgement covers
unfoldable pub advanced : View → TcpControl → Arrival → Acked → Advance
advanced v c a k = advance_in v.state c k.fin v a k.len
