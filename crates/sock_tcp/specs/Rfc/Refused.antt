-- What lies outside of the receive window, by the rules of the socket: smoltcp's, or those of RFC 9293.
use Rattle.std.specs.Prelude.{ℕ, [], length, Option, Some, None, Bool, true, false, not, ◌==◌, ◌&&◌, ◌||◌}
use Rattle.std.specs.Prelude.{if◌then◌else◌}
use Rattle.control_wire.specs.Seq.{seq_add, seq_eq, seq_minus}
use Rattle.control_wire.specs.Segment.{Segment}
use Rattle.control_wire.specs.declared.seq_number.TcpSeqNumber.{TcpSeqNumber}
use Rattle.control_wire.specs.declared.tcp.TcpControl.{TcpControl}
use Rattle.control_wire.specs.declared.tcp.TcpControl.TheVariants as control
use Rattle.sock_core.specs.Received.{room_of}
use Rattle.sock_core.specs.Seq.{is_not_after}
use Rattle.sock_tcp.specs.Arrival.{Arrival}
use Rattle.sock_tcp.specs.Inside.{Outcome, acked_by, outside, processed_inside, stopped}
pub use Rattle.sock_tcp.specs.Rfc.Duplicates.{is_plain_control}
use Rattle.sock_tcp.specs.View.{View}
use Rattle.sock_tcp.specs.Window.{honored_window}
use Rattle.sock_tcp.specs.declared.acked.Acked.{Acked}
use Rattle.sock_tcp.specs.declared.rules.Rules.{Rules}
use Rattle.sock_tcp.specs.declared.rules.Rules.TheVariants as rules
use Rattle.sock_tcp.specs.declared.state.State.{State}
use Rattle.sock_tcp.specs.declared.state.State.TheVariants as state
use Rattle.sock_tcp.specs.declared.window.Window.{Window}

-- ---- a FIN behind bytes that are there (RFC 9293, section 3.4: SEG.LEN counts it)

abbrev pub is_fin : TcpControl → Bool
is_fin control.Fin = true
is_fin _ = false

-- the number of the FIN is RCV.NXT
abbrev pub is_next_fin : TcpControl → Window → TcpSeqNumber → ℕ → Bool
is_next_fin c w number n = is_fin c && seq_eq (seq_add number n) w.start

-- ---- an acknowledgement that comes outside (RFC 9293, section 3.10.7.4)

-- bytes or the own FIN
abbrev pub acks_something : Acked → Bool
acks_something k = not (k.len == 0) || k.fin

-- from a receive buffer before RCV.NXT, but from there on only with news of what the socket sent; up to one byte behind
-- the window's end, as of a peer that counts the byte of its probe
abbrev pub is_near : Window → ℕ → TcpSeqNumber → Bool → Bool
is_near w room number news =
    is_not_after (seq_minus w.start room) number && is_not_after number (seq_add w.end 1)
    && (news || is_not_after w.start number)

abbrev pub is_heard_outside : View → Segment → Acked → Bool
is_heard_outside v s k =
    is_plain_control s.control && is_near (honored_window v) (room_of v.rx_buffer) s.seq_number (acks_something k)

-- ---- what is done

abbrev pub has_ended : State → Bool
has_ended state.Closed = true
has_ended _ = false

-- a segment that was heard is answered, unless the connection has ended by it
abbrev pub answered_outside : View → Arrival → Outcome
answered_outside v a = if has_ended v.state then stopped v else outside v a.now a.segment

-- or the state table has answered it
abbrev pub answered_if_not : Option Segment → Outcome → Arrival → Outcome
answered_if_not (Some r) o a = o
answered_if_not None o a = answered_outside o.view a

abbrev pub then_answered : Outcome → Arrival → Outcome
then_answered o a = answered_if_not o.reply o a

-- its FIN is taken; or its acknowledgement and its window are heard; or it is answered alone
unfoldable pub rfc_refused : View → Arrival → Outcome
rfc_refused v a =
    if is_next_fin a.segment.control (honored_window v) a.segment.seq_number (length a.segment.payload)
    then processed_inside v a control.Fin 0 []
    else (if is_heard_outside v a.segment (acked_by v a)
    then then_answered (processed_inside v a control.None 0 []) a
    else outside v a.now a.segment)

-- smoltcp answers it alone
abbrev pub refused : Rules → View → Arrival → Outcome
refused rules.Smoltcp v a = outside v a.now a.segment
refused rules.Rfc v a = rfc_refused v a
