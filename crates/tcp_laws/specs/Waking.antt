-- What a segment, and what the user timeout, does for a socket that waits for its peer.
use Rattle.std.specs.Prelude.{ℕ, ◌≡◌, ◌<◌, ◌/◌, ◌^◌, ◌⊎◌, length, Some, is_some, Bool, true, false}
use Rattle.ip_wire.specs.declared.repr.IpRepr.{IpRepr}
use Rattle.net_base.specs.declared.time.Instant.{Instant}
use Rattle.control_wire.specs.Segment.{Segment}
use Rattle.control_wire.specs.declared.seq_number.TcpSeqNumber.{TcpSeqNumber}
use Rattle.control_wire.specs.declared.tcp.TcpControl.TheVariants as control
use Rattle.sock_core.specs.Facts.{Facts}
use Rattle.sock_tcp.specs.Acked.{acked_of}
use Rattle.sock_tcp.specs.Advance.{counted_control}
use Rattle.sock_tcp.specs.Due.{data_due, effective_mss, flight, is_closing}
use Rattle.sock_tcp.specs.Polls.{is_reached, timeout_poll}
use Rattle.sock_tcp.specs.Rfc.UserTimeout.{timeout_of}
use Rattle.sock_tcp.specs.Process.{processed}
use Rattle.sock_tcp.specs.Steps.{is_duplicate, is_window_changed}
use Rattle.sock_tcp.specs.Rfc.Checks.{verdict_by}
use Rattle.sock_tcp.specs.Rfc.SmallSegments.{sends_again}
use Rattle.sock_tcp.specs.Rfc.Windows.{told_by}
use Rattle.sock_tcp.specs.View.{View}
use Rattle.sock_tcp.specs.Window.{accepted_window, is_inside}
use Rattle.sock_tcp.specs.declared.state.State.TheVariants as state
use Rattle.sock_tcp.specs.declared.state.State.{State}
use Rattle.sock_tcp.specs.declared.rules.Rules.{Rules}
use Rattle.sock_tcp.specs.declared.rules.Rules.TheVariants as rules
use Rattle.sock_tcp.specs.declared.timer.Timer.{Timer}
use Rattle.sock_tcp.specs.declared.timer.Timer.TheVariants as timer
use Rattle.sock_tcp.specs.declared.tuple.Tuple.{Tuple}
use Rattle.sock_tcp.specs.declared.verdict.Verdict.TheVariants as verdicts
use Rattle.tcp_laws.specs.Polling.{IsReached}
use Rattle.tcp_laws.specs.SocketRun.{IsNumbered}

-- ---- the user timeout

-- there is a peer, and the user timeout after the moment of the last segment is over
pub record IsTimedOut (v : View) (now : Instant) : Type 0 where
  pub peer : is_some v.tuple ≡ true
  pub over : is_reached (timeout_poll (timeout_of v) v.remote_last_ts) now ≡ true

abbrev pub IsClosed : View → Type 0
IsClosed v = v.state ≡ state.Closed

-- ---- what says nothing

-- the acknowledgement covers neither a byte nor the own FIN
pub record AcksNothing (v : View) (s : Segment) : Type 0 where
  pub bytes : (acked_of v s.control s.ack_number).len ≡ 0
  pub fin : (acked_of v s.control s.ack_number).fin ≡ false

-- w has of v the moment of the last segment, the peer's window, the timer, and all that is still to be acknowledged
pub record HeardNothing (v w : View) : Type 0 where
  pub last : w.remote_last_ts ≡ v.remote_last_ts
  pub timeout : w.timeout ≡ v.timeout
  pub window : w.remote_win_len ≡ v.remote_win_len
  pub timer : w.timer ≡ v.timer
  pub queue : w.tx_buffer ≡ v.tx_buffer
  pub una : w.local_seq_no ≡ v.local_seq_no
  pub nxt : w.remote_last_seq ≡ v.remote_last_seq

-- by smoltcp's rules in LAST-ACK whatever acknowledges nothing new says nothing else either, its window included
abbrev pub LastAckHearsNothing : Type 0
LastAckHearsNothing = (v : View) (now : Instant) (word : ℕ) (ip : IpRepr) (s : Segment)
    → v.rules ≡ rules.Smoltcp
    → v.state ≡ state.LastAck
    → AcksNothing v s
    → HeardNothing v (processed v now word ip s).view

-- ---- what wakes

-- in these states whatever passes and lies in the receive window tells the peer's window
abbrev pub hears_window : State → Bool
hears_window state.Established = true
hears_window state.FinWait1 = true
hears_window state.CloseWait = true
hears_window state.Closing = true
hears_window _ = false

-- a segment that passes, lies in the receive window, counts as one without a control bit, and as telling a window
pub record TellsWindow (v : View) (now : Instant) (s : Segment) : Type 0 where
  pub hears : hears_window v.state ≡ true
  pub passes : verdict_by v.rules v now s ≡ verdicts.Pass
  pub inside : is_inside (accepted_window v.rules v) s.seq_number (length s.payload) ≡ true
  pub no_bit : counted_control s.control (accepted_window v.rules v) s.seq_number (length s.payload) ≡ control.None
  pub window : 0 < told_by v.rules v s

-- bytes wait, or a FIN does
abbrev pub HasToSend : View → Type 0
HasToSend v = (0 < length v.tx_buffer.bytes) ⊎ (is_closing v.state ≡ true)

-- the window is less than half of the largest one that was told, than a segment and than what waits; none of it may
-- have been sent before; and there is a moment at which it goes out, which `poll_at` tells
pub record WaitsSmall (v : View) (t : Tuple) (f : Facts) : Type 0 where
  pub half : v.remote_win_len < v.largest_window / 2
  pub short : v.remote_win_len < effective_mss v t f
  pub more : v.remote_win_len < length v.tx_buffer.bytes
  pub has_moment : is_some v.idle_at ≡ true
  pub first : sends_again v.recovery ≡ false

-- by the RFCs' rules it may be small (RFC 9293, section 3.8.6.2.1)
abbrev pub GoesOrWaits : Rules → View → Tuple → Facts → Type 0
GoesOrWaits rules.Smoltcp v t f = data_due v t f ≡ true
GoesOrWaits rules.Rfc v t f = (data_due v t f ≡ true) ⊎ WaitsSmall v t f

-- where nothing is in flight, what waits is due after a segment that tells a window
abbrev pub WindowWakes : Type 0
WindowWakes = (v : View) (now : Instant) (word : ℕ) (ip : IpRepr) (s : Segment) (t : Tuple) (f : Facts)
    → IsReached v
    → word < 2 ^ 32
    → IsNumbered s
    → TellsWindow v now s
    → flight (processed v now word ip s).view ≡ 0
    → HasToSend (processed v now word ip s).view
    → GoesOrWaits v.rules (processed v now word ip s).view t f

-- the third duplicate in turn: it acknowledges nothing new while something is in flight, without bytes and with the
-- window as it was
pub record IsThirdDuplicate (v : View) (s : Segment) (ack : TcpSeqNumber) : Type 0 where
  pub number : s.ack_number ≡ Some ack
  pub nothing : AcksNothing v s
  pub duplicate : is_duplicate v ack (length s.payload) (is_window_changed v s.control (told_by v.rules v s)) ≡ true
  pub two_before : v.local_rx_dup_acks ≡ 2

abbrev pub is_retransmission : Timer → Bool
is_retransmission (timer.Retransmit at) = true
is_retransmission _ = false

-- the segment at SND.UNA goes out again at once; by the RFCs' rules, which begin no second recovery in one that goes on
-- and send no FIN again so (RFC 6582, section 3.2), else when the retransmission timer is over
abbrev pub Resends : Rules → Timer → Type 0
Resends rules.Smoltcp t = t ≡ timer.FastRetransmit
Resends rules.Rfc t = (t ≡ timer.FastRetransmit) ⊎ (is_retransmission t ≡ true)

-- where something is in flight, the third duplicate makes a fast retransmission due
abbrev pub ThirdDuplicateWakes : Type 0
ThirdDuplicateWakes = (v : View) (now : Instant) (word : ℕ) (ip : IpRepr) (s : Segment) (ack : TcpSeqNumber)
    → IsReached v
    → IsNumbered s
    → TellsWindow v now s
    → IsThirdDuplicate v s ack
    → Resends v.rules (processed v now word ip s).view.timer
