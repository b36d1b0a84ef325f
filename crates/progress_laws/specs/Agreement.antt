-- Two sockets of one connection that agree on their numbers, whatever waits in their queues, is held out of order, is
-- in flight or was lost; and how the bytes and the FIN of the one come over.
use Rattle.std.specs.Prelude.{ℕ, ◌≡◌, ◌⊎◌, ◌+◌, ◌<◌, ◌≤◌, ◌≤ℤ◌, List, ◌++◌, length, drop, slice_get, Option, Some}
use Rattle.std.specs.Prelude.{None, Err, true}
use Rattle.net_base.specs.declared.time.Duration.{Duration}
use Rattle.net_base.specs.declared.time.Instant.{Instant}
use Rattle.control_wire.specs.Segment.{Segment}
use Rattle.control_wire.specs.Seq.{seq_add, seq_sub}
use Rattle.sock_core.specs.Bounds.{IsMtu}
use Rattle.sock_core.specs.Facts.{Facts}
use Rattle.sock_core.specs.Received.{byte_at, room_of}
use Rattle.sock_tcp.specs.Content.{Sending, carries_data}
use Rattle.sock_tcp.specs.Due.{is_closing}
use Rattle.progress_laws.specs.Smoltcp.{processed}
use Rattle.sock_tcp.specs.Queues.{may_send, receives, recv_check}
use Rattle.sock_tcp.specs.Verdict.{fin_place}
use Rattle.sock_tcp.specs.View.{View}
use Rattle.sock_tcp.specs.Window.{next_ack}
use Rattle.sock_tcp.specs.declared.error.RecvError.TheVariants as recv_error
use Rattle.sock_tcp.specs.declared.state.State.TheVariants as state
use Rattle.sock_tcp.specs.declared.timer.Timer.TheVariants as timer
use Rattle.sock_tcp.specs.declared.tuple.Tuple.{Tuple}
use Rattle.tcp_laws.specs.Polling.{IsReached}
use Rattle.progress_laws.specs.BothWays.{window_told}
use Rattle.progress_laws.specs.InStep.{Move, told}
use Rattle.progress_laws.specs.ShutWindows.{width}
use Rattle.progress_laws.specs.Speech.{DispatchesOk}
use Rattle.sock_tcp.specs.declared.rules.Rules.TheVariants as rules

-- ---- the one that speaks

-- How it waits: for an acknowledgement of whatever is in flight, or to send it again; or with an idle timer, or that of
-- probes, where nothing is in flight, or a fast retransmission is marked. A probe has a byte then
pub data Waits (v : View) : Type 0 where
  ForAnswer : (at : Instant) → v.timer ≡ timer.Retransmit at → Waits v
  ForRepeat : v.timer ≡ timer.FastRetransmit → Waits v
  ForKeepAlive : (at : Option Instant)
      → v.timer ≡ timer.Idle at
      → (v.pending_fast_retransmit ≡ true) ⊎ (v.remote_last_seq ≡ v.local_seq_no)
      → Waits v
  ForProbe : (at : Instant) (delay : Duration)
      → v.timer ≡ timer.ZeroWindowProbe at delay
      → (v.pending_fast_retransmit ≡ true) ⊎ ((v.remote_last_seq ≡ v.local_seq_no) × (0 < length v.tx_buffer.bytes))
      → Waits v

-- The speaker v, with the peer t, is what some list of calls makes of a new socket, in ESTABLISHED, CLOSE-WAIT,
-- FIN-WAIT-1, CLOSING or LAST-ACK, with smoltcp's rules, without a user timeout, and with the keep-alive interval d
pub record IsSpeaker (d : Duration) (t : Tuple) (v : View) : Type 0 where
  pub reached : IsReached v
  pub carries : carries_data v.state ≡ true
  pub peer : v.tuple ≡ Some t
  pub no_timeout : v.timeout ≡ None
  pub smoltcp : v.rules ≡ rules.Smoltcp
  pub keep_alive : v.keep_alive ≡ Some d
  pub waits : Waits v

-- ---- the one that takes

-- The taker w is what some list of calls makes of a new socket, in ESTABLISHED, FIN-WAIT-1 or FIN-WAIT-2, with
-- smoltcp's rules, whatever it has to send and however it waits. Its receive buffer has a place
pub record IsTaking (w : View) : Type 0 where
  pub reached : IsReached w
  pub state : receives w.state ≡ true
  pub smoltcp : w.rules ≡ rules.Smoltcp
  pub room : 0 < room_of w.rx_buffer

-- ---- they agree

-- SND.NXT of w is RCV.NXT of v, or lies in the receive window of v and in the one that v tells now: else v hears
-- nothing of w (`stall_both_again` in docs/STALLS.md)
abbrev pub InReach : View → View → Type 0
InReach v w =
    (w.remote_last_seq ≡ next_ack v)
    ⊎ ((seq_sub w.remote_last_seq (next_ack v) < width v) × (seq_sub w.remote_last_seq (next_ack v) < window_told v))

-- They agree on the numbers of both streams: w took so many bytes of v's transmit queue, and v heard so many places of
-- w's, perhaps its FIN with them, that w has not heard of. What w holds out of order are bytes of v's queue, at their
-- places. In LAST-ACK w took something that v has not heard of, or v knows a window above 0 (`stall_last_ack`)
pub record Agreement (d : Duration) (t : Tuple) (v w : View) (taken heard : ℕ) : Type 0 where
  pub speaker : IsSpeaker d t v
  pub taker : IsTaking w
  pub taken_within : taken ≤ length v.tx_buffer.bytes
  pub there : next_ack w ≡ seq_add v.local_seq_no taken
  pub held : (k b : ℕ) → byte_at w.rx_buffer.held k ≡ Some b → slice_get v.tx_buffer.bytes (taken + k) ≡ Some b
  pub heard_within : heard ≤ length w.tx_buffer.bytes + fin_place w.state
  pub back : next_ack v ≡ seq_add w.local_seq_no heard
  pub in_reach : InReach v w
  pub last : v.state ≡ state.LastAck → (0 < taken) ⊎ (0 < v.remote_win_len)

-- ---- what they do in turn

-- A move (`Move`), or one more: v dispatches, what it emits reaches w at once, and the answer is lost. So it is where
-- bytes fill the receive buffer of w, and the answer tells a window of 0: heard, it can set the probe timer while
-- something is in flight, and nothing goes on any more (`stall_empty_probe`)
pub data Exchange (f : Facts) (now : Instant) (v w : View) (got : List ℕ) (v' w' : View) (got' : List ℕ) : Type 0 where
  IsMove : Move f now v w got v' w' got' → Exchange f now v w got v' w' got'
  AnswerIsLost : (out : Sending) (answer : Segment) → DispatchesOk (told f now) v (Some out) v'
      → processed w now 0 out.ip out.segment ≡ record { view = w'; reply = Some answer } → got' ≡ got
      → Exchange f now v w got v' w' got'

-- a list of them, whose moments do not go back
pub data Exchanges (f : Facts) : Instant → View → View → List ℕ → Instant → View → View → List ℕ → Type 0 where
  NoMore : (at : Instant) (v w : View) (got : List ℕ) → Exchanges f at v w got at v w got
  NextOne : (at now end : Instant) (v w u x v' w' : View) (got more got' : List ℕ) → at.micros ≤ℤ now.micros
      → Exchange f now v w got u x more → Exchanges f now u x more end v' w' got'
      → Exchanges f at v w got end v' w' got'

-- ---- the bytes

-- Some such list empties the transmit queue of v, and what was read of w then is what waited there, and all that it had
-- not taken, in order. They still agree. Of w's stream v took nothing, and nothing is lost: what v has not heard of it
-- is what it was
pub record BytesArrive (d : Duration) (t : Tuple) (f : Facts) (at : Instant) (v w : View) (got : List ℕ)
    (taken heard : ℕ) : Type 0 where
  pub end : Instant
  pub sender : View
  pub receiver : View
  pub exchanges : Exchanges f at v w got end sender receiver
      (got ++ (w.rx_buffer.bytes ++ drop taken v.tx_buffer.bytes))
  pub sent : length sender.tx_buffer.bytes ≡ 0
  pub then_heard : ℕ
  pub agrees : Agreement d t sender receiver 0 then_heard
  pub state : sender.state ≡ v.state
  pub nothing_taken : sender.rx_buffer ≡ v.rx_buffer
  pub nothing_lost : drop then_heard receiver.tx_buffer.bytes ≡ drop heard w.tx_buffer.bytes

-- from any moment on, in any context that has the speaker's address; the speaker was not closed
abbrev pub AgreeingBytesArrive : Type 0
AgreeingBytesArrive = (d : Duration) (t : Tuple) (f : Facts) (at : Instant) (v w : View) (got : List ℕ)
    (taken heard : ℕ)
    → IsMtu f.mtu
    → f.has_address t.local.addr ≡ true
    → may_send v.state ≡ true
    → Agreement d t v w taken heard
    → BytesArrive d t f at v w got taken heard

-- ---- the FIN

-- Where v was closed, the same list brings its FIN, too: reads of w answer `Finished`
pub record FinArrives (f : Facts) (at : Instant) (v w : View) (got : List ℕ) (taken : ℕ) : Type 0 where
  pub end : Instant
  pub sender : View
  pub receiver : View
  pub exchanges : Exchanges f at v w got end sender receiver
      (got ++ (w.rx_buffer.bytes ++ drop taken v.tx_buffer.bytes))
  pub finished : recv_check receiver ≡ Err recv_error.Finished

abbrev pub AgreeingFinArrives : Type 0
AgreeingFinArrives = (d : Duration) (t : Tuple) (f : Facts) (at : Instant) (v w : View) (got : List ℕ)
    (taken heard : ℕ)
    → IsMtu f.mtu
    → f.has_address t.local.addr ≡ true
    → is_closing v.state ≡ true
    → Agreement d t v w taken heard
    → FinArrives f at v w got taken

-- ---- both streams

-- The taker w speaks, too, with the peer s and the keep-alive interval e, and v still takes bytes, with a place in its
-- receive buffer. Of the places that v heard of w's stream none is a FIN, and what v holds out of order are bytes of
-- w's queue
pub record AgreeBothWays (d e : Duration) (t s : Tuple) (v w : View) (taken heard : ℕ) : Type 0 where
  pub over : Agreement d t v w taken heard
  pub here : IsTaking v
  pub across : IsSpeaker e s w
  pub heard_within : heard ≤ length w.tx_buffer.bytes
  pub held : (k b : ℕ) → byte_at v.rx_buffer.held k ≡ Some b → slice_get w.tx_buffer.bytes (heard + k) ≡ Some b

-- an exchange from the one to the other, or back. got: what was read of w; back: what was read of v
pub data EitherWay (f : Facts) (now : Instant) (v w : View) (got back : List ℕ) (v' w' : View) (got' back' : List ℕ)
    : Type 0 where
  ToThat : Exchange f now v w got v' w' got'
      → back' ≡ back
      → EitherWay f now v w got back v' w' got' back'
  ToThis : Exchange f now w v back w' v' back'
      → got' ≡ got
      → EitherWay f now v w got back v' w' got' back'

-- a list of them, whose moments do not go back
pub data EitherWays (f : Facts) : Instant → View → View → List ℕ → List ℕ → Instant → View → View → List ℕ → List ℕ
    → Type 0 where
  NoOther : (at : Instant) (v w : View) (got back : List ℕ) → EitherWays f at v w got back at v w got back
  Another : (at now end : Instant) (v w u x v' w' : View) (got back more less got' back' : List ℕ)
      → at.micros ≤ℤ now.micros → EitherWay f now v w got back u x more less
      → EitherWays f now u x more less end v' w' got' back' → EitherWays f at v w got back end v' w' got' back'

-- Some such list brings over all that waited and was not taken, both ways, in order. Where w was not closed, both
-- transmit queues are empty then; where it was, reads of v answer `Finished`
pub record StreamsArrive (f : Facts) (at : Instant) (v w : View) (got back : List ℕ) (taken heard : ℕ) : Type 0 where
  pub end : Instant
  pub here : View
  pub across : View
  pub exchanges : EitherWays f at v w got back end here across
      (got ++ (w.rx_buffer.bytes ++ drop taken v.tx_buffer.bytes))
      (back ++ (v.rx_buffer.bytes ++ drop heard w.tx_buffer.bytes))
  pub sent : may_send w.state ≡ true → (length here.tx_buffer.bytes ≡ 0) × (length across.tx_buffer.bytes ≡ 0)
  pub finished : is_closing w.state ≡ true → recv_check here ≡ Err recv_error.Finished

-- v, which speaks first, was not closed
abbrev pub AgreeingStreamsArrive : Type 0
AgreeingStreamsArrive = (d e : Duration) (t s : Tuple) (f : Facts) (at : Instant) (v w : View) (got back : List ℕ)
    (taken heard : ℕ)
    → IsMtu f.mtu
    → f.has_address t.local.addr ≡ true
    → f.has_address s.local.addr ≡ true
    → may_send v.state ≡ true
    → AgreeBothWays d e t s v w taken heard
    → StreamsArrive f at v w got back taken heard

-- ---- both were closed

-- First all bytes of the one come over, and its FIN: reads of w answer `Finished`, and v heard of it. Then it is the
-- other way round
pub record BothEnd (f : Facts) (at : Instant) (v w : View) (got back : List ℕ) (taken heard : ℕ) : Type 0 where
  pub mid : Instant
  pub here : View
  pub across : View
  pub one : EitherWays f at v w got back mid here across
      (got ++ (w.rx_buffer.bytes ++ drop taken v.tx_buffer.bytes)) (back ++ v.rx_buffer.bytes)
  pub finished_across : recv_check across ≡ Err recv_error.Finished
  pub acknowledged : here.state ≡ state.FinWait2
  pub end : Instant
  pub last_here : View
  pub last_across : View
  pub other : EitherWays f mid here across
      (got ++ (w.rx_buffer.bytes ++ drop taken v.tx_buffer.bytes)) (back ++ v.rx_buffer.bytes)
      end last_here last_across
      (got ++ (w.rx_buffer.bytes ++ drop taken v.tx_buffer.bytes))
      ((back ++ v.rx_buffer.bytes) ++ drop heard w.tx_buffer.bytes)
  pub finished_here : recv_check last_here ≡ Err recv_error.Finished

abbrev pub AgreeingClosersFinish : Type 0
AgreeingClosersFinish = (d e : Duration) (t s : Tuple) (f : Facts) (at : Instant) (v w : View) (got back : List ℕ)
    (taken heard : ℕ)
    → IsMtu f.mtu
    → f.has_address t.local.addr ≡ true
    → f.has_address s.local.addr ≡ true
    → is_closing v.state ≡ true
    → is_closing w.state ≡ true
    → AgreeBothWays d e t s v w taken heard
    → BothEnd f at v w got back taken heard
