-- What a segment that a socket says moves, delivered at once to the other side.
use Rattle.std.specs.Prelude.{ℕ, ◌≡◌, ◌+◌, ◌<◌, ◌≤◌, ◌^◌, ◌⊎◌, length, drop, int_lt, Option, Some, Bool, true, false}
use Rattle.ip_wire.specs.declared.repr.IpRepr.{IpRepr}
use Rattle.net_base.specs.declared.time.Instant.{Instant}
use Rattle.control_wire.specs.Segment.{Segment}
use Rattle.control_wire.specs.Seq.{seq_add, seq_sub}
use Rattle.control_wire.specs.declared.tcp.TcpTimestampRepr.{TcpTimestampRepr}
use Rattle.sock_core.specs.Facts.{Facts}
use Rattle.sock_tcp.specs.Content.{Sending, carries_data}
use Rattle.sock_tcp.specs.Due.{flight, is_closing}
use Rattle.progress_laws.specs.Smoltcp.{processed}
use Rattle.sock_tcp.specs.Queues.{receives}
use Rattle.sock_tcp.specs.Verdict.{fin_place}
use Rattle.sock_tcp.specs.View.{View}
use Rattle.sock_tcp.specs.Window.{is_inside, next_ack, receive_window}
use Rattle.sock_tcp.specs.declared.emission.Kind.TheVariants as kind
use Rattle.sock_tcp.specs.declared.state.State.{State}
use Rattle.sock_tcp.specs.declared.state.State.TheVariants as state
use Rattle.sock_tcp.specs.declared.tuple.Tuple.{Tuple}
use Rattle.tcp_laws.specs.Polling.{IsReached}
use Rattle.progress_laws.specs.Speech.{DispatchesOk, GoesOn, Speech}
use Rattle.sock_tcp.specs.declared.rules.Rules.TheVariants as rules

-- ---- the two sides

-- The sender v, with the peer t, is what some list of calls makes of a new socket, in ESTABLISHED, CLOSE-WAIT,
-- FIN-WAIT-1, CLOSING or LAST-ACK. A dispatch of it says out, as `Speech` has it, and leaves u
pub record HasSaid (t : Tuple) (f : Facts) (v : View) (out : Sending) (u : View) : Type 0 where
  pub reached : IsReached v
  pub carries : carries_data v.state ≡ true
  pub on : GoesOn v t f
  pub dispatch : DispatchesOk f v (Some out) u
  pub speech : Speech v out

-- The other side w is what some list of calls makes of a new socket, in ESTABLISHED, FIN-WAIT-1 or FIN-WAIT-2, with
-- smoltcp's rules and room for one unit of its window field, whatever waits in its queues. They agree on the numbers of
-- both streams: w took n bytes of v's transmit queue, and v some of what w has not heard of yet, of its queue and its
-- FIN
pub record HearsOf (v w : View) (n : ℕ) : Type 0 where
  pub reached : IsReached w
  pub receives : receives w.state ≡ true
  pub smoltcp : w.rules ≡ rules.Smoltcp
  pub room : 2 ^ w.remote_win_shift ≤ length w.rx_buffer.held
  pub taken_within : n ≤ length v.tx_buffer.bytes
  pub there : next_ack w ≡ seq_add v.local_seq_no n
  pub heard : ℕ
  pub heard_within : heard ≤ length w.tx_buffer.bytes + fin_place w.state
  pub back : next_ack v ≡ seq_add w.local_seq_no heard

-- a probe has a byte, and nothing is missing before it
pub record ProbesNext (v : View) (n : ℕ) : Type 0 where
  pub no_gap : flight v ≤ n
  pub byte : flight v < length v.tx_buffer.bytes

-- the receive window of w has a place
abbrev pub HasWindow : View → Type 0
HasWindow w = 0 < seq_sub (receive_window w).end (receive_window w).start

-- the peer's FIN is counted, and TIME-WAIT has not begun
abbrev pub has_counted : State → Bool
has_counted state.CloseWait = true
has_counted state.Closing = true
has_counted state.LastAck = true
has_counted _ = false

-- ---- what moves

-- out reaches w at this moment, and an answer, in whatever header and with whatever timestamp, reaches u
pub data Moved (v u w : View) (out : Sending) (n : ℕ) (now : Instant) (word : ℕ) : Type 0 where
  -- bytes join the receive queue
  Joins : length w.rx_buffer.bytes < length (processed w now word out.ip out.segment).view.rx_buffer.bytes
      → Moved v u w out n now word
  -- the FIN is counted
  CountsFin : (processed w now word out.ip out.segment).view.rx_fin_received ≡ true
      → next_ack (processed w now word out.ip out.segment).view ≡ seq_add (next_ack w) 1
      → Moved v u w out n now word
  -- the answer releases what w took
  Releases : (answer : Segment)
      → (processed w now word out.ip out.segment).reply ≡ Some answer
      → 0 < n
      → ((ip : IpRepr) (stamp : Option TcpTimestampRepr)
      → (processed u now word ip (record answer { timestamp = stamp })).view.tx_buffer.bytes
      ≡ drop n v.tx_buffer.bytes)
      → Moved v u w out n now word
  -- w took nothing that v has not heard of, and the answer tells a window above 0
  TellsWindow : (answer : Segment)
      → (processed w now word out.ip out.segment).reply ≡ Some answer
      → n ≡ 0
      → ((ip : IpRepr) (stamp : Option TcpTimestampRepr)
      → 0 < (processed u now word ip (record answer { timestamp = stamp })).view.remote_win_len)
      → Moved v u w out n now word

-- ---- the law

-- The answer's number, which is SND.NXT of w, lies in the receive window of v. In LAST-ACK either w took something that
-- v has not heard of, or out is no keep-alive and w's window has a place
abbrev pub DeliveryMoves : Type 0
DeliveryMoves = (t : Tuple) (f : Facts) (v u w : View) (out : Sending) (n : ℕ) (now : Instant)
    (word : ℕ)
    → HasSaid t f v out u
    → HearsOf v w n
    → (out.kind ≡ kind.Probe → ProbesNext v n)
    → is_inside (receive_window u) w.remote_last_seq 0 ≡ true
    → (v.state ≡ state.LastAck → (0 < n) ⊎ ((out.kind ≡ kind.KeepAlive → ⊥) × HasWindow w))
    → Moved v u w out n now word

-- ---- where the FIN was counted already

-- All of v's queue was taken, and its FIN was counted, which v has not heard of: w is in CLOSE-WAIT, CLOSING or
-- LAST-ACK. They agree on the numbers of both streams, as above
pub record HasCounted (v w : View) : Type 0 where
  pub reached : IsReached w
  pub state : has_counted w.state ≡ true
  pub there : next_ack w ≡ seq_add v.local_seq_no (length v.tx_buffer.bytes + 1)
  pub heard : ℕ
  pub heard_within : heard ≤ length w.tx_buffer.bytes + fin_place w.state
  pub back : next_ack v ≡ seq_add w.local_seq_no heard

-- It is answered; and the answer, in whatever header and with whatever timestamp, empties the transmit queue of v, and
-- acknowledges its FIN
pub record EndsFin (u w : View) (out : Sending) (now : Instant) (word : ℕ) : Type 0 where
  pub answer : Segment
  pub answered : (processed w now word out.ip out.segment).reply ≡ Some answer
  pub empties : (ip : IpRepr) (stamp : Option TcpTimestampRepr)
      → length (processed u now word ip (record answer { timestamp = stamp })).view.tx_buffer.bytes ≡ 0
  pub ends : (ip : IpRepr) (stamp : Option TcpTimestampRepr)
      → is_closing (processed u now word ip (record answer { timestamp = stamp })).view.state ≡ false

-- Of a FIN alone only where no challenge ACK was sent within the second before
abbrev pub CountedFinIsHeard : Type 0
CountedFinIsHeard = (t : Tuple) (f : Facts) (v u w : View) (out : Sending) (now : Instant) (word : ℕ)
    → HasSaid t f v out u
    → is_closing v.state ≡ true
    → HasCounted v w
    → (out.kind ≡ kind.Probe → flight v < length v.tx_buffer.bytes)
    → (length out.segment.payload ≡ 0 → int_lt now.micros w.challenge_ack_timer.micros ≡ false)
    → is_inside (receive_window u) w.remote_last_seq 0 ≡ true
    → EndsFin u w out now word
