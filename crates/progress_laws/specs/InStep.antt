-- Two sockets that stand in step, of which one sends to the other, and what they can do in turn.
use Rattle.std.specs.Prelude.{ℕ, ◌≡◌, ◌⊎◌, ◌+◌, ◌^◌, ◌<◌, ◌≤◌, ◌≤ℤ◌, List, [], ◌++◌, length, take, drop, replicate}
use Rattle.std.specs.Prelude.{Option, Some, None, is_some, Err, Bool, true, false}
use Rattle.std.specs.Option.{ForSome}
use Rattle.net_base.specs.declared.time.Duration.{Duration}
use Rattle.net_base.specs.declared.time.Instant.{Instant}
use Rattle.control_wire.specs.Segment.{Segment}
use Rattle.control_wire.specs.Seq.{seq_add, seq_sub}
use Rattle.control_wire.specs.declared.seq_number.TcpSeqNumber.{TcpSeqNumber}
use Rattle.control_wire.specs.declared.tcp.TcpTimestampRepr.{TcpTimestampRepr}
use Rattle.sock_core.specs.Bounds.{IsMtu}
use Rattle.sock_core.specs.Facts.{Facts}
use Rattle.sock_tcp.specs.Closing.{closed}
use Rattle.sock_tcp.specs.Content.{Sending}
use Rattle.progress_laws.specs.Smoltcp.{processed}
use Rattle.sock_tcp.specs.Queues.{may_send, read_off, recv_check}
use Rattle.sock_tcp.specs.Replies.{reply_ip}
use Rattle.sock_tcp.specs.Steps.{scale_of}
use Rattle.sock_tcp.specs.View.{View}
use Rattle.sock_tcp.specs.Window.{next_ack, receive_window}
use Rattle.sock_tcp.specs.declared.error.RecvError.TheVariants as recv_error
use Rattle.sock_tcp.specs.declared.state.State.{State}
use Rattle.sock_tcp.specs.declared.state.State.TheVariants as state
use Rattle.sock_tcp.specs.declared.timer.Timer.TheVariants as timer
use Rattle.sock_tcp.specs.declared.tuple.Tuple.{Tuple}
use Rattle.tcp_laws.specs.Polling.{IsReached}
use Rattle.progress_laws.specs.Speech.{DispatchesOk}
use Rattle.progress_laws.specs.Stamped.{IsAnswerStamp, stamped}
use Rattle.sock_tcp.specs.declared.rules.Rules.TheVariants as rules

-- ---- in step

-- How the sender waits. With nothing in flight: for the moment of a keep-alive; for nothing, while the peer has a
-- window; or to probe for a window while bytes wait. Or for an acknowledgement of whatever is in flight
pub data Rests (v : View) : Type 0 where
  ForKeepAlive : (at : Instant)
      → v.timer ≡ timer.Idle (Some at)
      → v.remote_last_seq ≡ v.local_seq_no
      → Rests v
  ForNothing : v.timer ≡ timer.Idle None
      → v.remote_last_seq ≡ v.local_seq_no
      → 0 < v.remote_win_len
      → Rests v
  ForProbe : (at : Instant) (delay : Duration)
      → v.timer ≡ timer.ZeroWindowProbe at delay
      → v.remote_last_seq ≡ v.local_seq_no
      → 0 < length v.tx_buffer.bytes
      → Rests v
  ForAnswer : (at : Instant)
      → v.timer ≡ timer.Retransmit at
      → Rests v

-- The socket v, with the peer t, is what some list of calls makes of a new one. It is in one of these states, without a
-- user timeout, with smoltcp's rules, with the keep-alive interval d, or with none
pub record IsSenderIn (states : State → Bool) (d : Option Duration) (t : Tuple) (v : View) : Type 0 where
  pub reached : IsReached v
  pub state : states v.state ≡ true
  pub peer : v.tuple ≡ Some t
  pub no_timeout : v.timeout ≡ None
  pub smoltcp : v.rules ≡ rules.Smoltcp
  pub keep_alive : v.keep_alive ≡ d
  pub nothing_marked : v.pending_fast_retransmit ≡ false
  pub rests : Rests v

-- a sender, in ESTABLISHED or CLOSE-WAIT
abbrev pub IsSender : Option Duration → Tuple → View → Type 0
IsSender d t v = IsSenderIn may_send d t v

-- in ESTABLISHED, and in FIN-WAIT-2, where the own FIN is acknowledged, bytes are still taken
abbrev pub takes_bytes : State → Bool
takes_bytes state.Established = true
takes_bytes state.FinWait2 = true
takes_bytes _ = false

-- The receiver w, with the peer s and smoltcp's rules, is in one of these, without a user timeout, with a keep-alive
-- interval that is not 0 or with none, and has nothing to send: all that it took was read, and it holds nothing. What
-- it acknowledged last lies not far behind that. It has room for as many bytes, at least for one unit of its window
-- field
pub record IsReceiver (s : Tuple) (w : View) : Type 0 where
  pub state : takes_bytes w.state ≡ true
  pub peer : w.tuple ≡ Some s
  pub no_timeout : w.timeout ≡ None
  pub smoltcp : w.rules ≡ rules.Smoltcp
  pub interval : ForSome w.keep_alive (λ e. 0 < e.micros)
  pub moment : Option Instant
  pub timer : w.timer ≡ timer.Idle moment
  pub nothing_to_send : length w.tx_buffer.bytes ≡ 0
  pub nothing_in_flight : w.remote_last_seq ≡ w.local_seq_no
  pub nothing_marked : w.pending_fast_retransmit ≡ false
  pub read : w.rx_buffer.bytes ≡ []
  pub room : ℕ
  pub nothing_held : w.rx_buffer.held ≡ replicate room None
  pub room_at_most : room ≤ 2 ^ 30
  pub room_at_least : 2 ^ w.remote_win_shift ≤ room
  pub last : TcpSeqNumber
  pub last_small : last.0 < 2 ^ 32
  pub acknowledged : w.remote_last_ack ≡ Some last
  pub near : seq_sub (next_ack w) last ≤ 2 ^ 30

-- They agree on the numbers of both streams and on the scale of the receiver's window. The receiver took so many bytes
-- that the sender has not heard of. The window that the sender knows lies within the receiver's. While the sender's
-- retransmission timer runs, it knows a window above 0, or has a keep-alive interval
pub record InStep (d : Option Duration) (t s : Tuple) (v w : View) : Type 0 where
  pub sender : IsSender d t v
  pub receiver : IsReceiver s w
  pub taken : ℕ
  pub taken_within : taken ≤ length v.tx_buffer.bytes
  pub there : next_ack w ≡ seq_add v.local_seq_no taken
  pub back : w.local_seq_no ≡ next_ack v
  pub scale : scale_of v.remote_win_scale ≡ w.remote_win_shift
  pub window : v.remote_win_len ≤ taken + seq_sub (receive_window w).end (receive_window w).start
  pub not_last : (at : Instant) → v.timer ≡ timer.Retransmit at → (0 < v.remote_win_len) ⊎ (is_some d ≡ true)

-- ---- what they do in turn

-- the facts f at this moment
abbrev pub told : Facts → Instant → Facts
told f now = record f { now = now.micros }

-- One of them calls, with emits that answer Ok, and what it emits reaches the other one at once; with timestamps where
-- its segments carry them.
-- got: what was read of w
pub data Move (f : Facts) (now : Instant) (v w : View) (got : List ℕ) (v' w' : View) (got' : List ℕ) : Type 0 where
  -- v dispatches, and w has no answer
  Carries : (out : Sending)
      → DispatchesOk (told f now) v (Some out) v'
      → processed w now 0 out.ip out.segment ≡ record { view = w'; reply = None }
      → got' ≡ got
      → Move f now v w got v' w' got'
  -- v dispatches, and the answer of w reaches v
  IsAnswered : (out : Sending) (u : View) (answer : Segment) (stamp : Option TcpTimestampRepr)
      → DispatchesOk (told f now) v (Some out) u
      → processed w now 0 out.ip out.segment ≡ record { view = w'; reply = Some answer }
      → IsAnswerStamp w' out.segment answer stamp
      → processed u now 0 (reply_ip out.ip (stamped answer stamp)) (stamped answer stamp)
      ≡ record { view = v'; reply = None }
      → got' ≡ got
      → Move f now v w got v' w' got'
  -- w dispatches, and v has no answer
  CarriesBack : (out : Sending)
      → DispatchesOk (told f now) w (Some out) w'
      → processed v now 0 out.ip out.segment ≡ record { view = v'; reply = None }
      → got' ≡ got
      → Move f now v w got v' w' got'
  -- v dispatches, and what it emits, if anything, is lost
  GoesAstray : (out : Option Sending)
      → DispatchesOk (told f now) v out v'
      → w' ≡ w
      → got' ≡ got
      → Move f now v w got v' w' got'
  -- w dispatches, and what it emits is lost
  IsLost : (out : Sending)
      → DispatchesOk (told f now) w (Some out) w'
      → v' ≡ v
      → got' ≡ got
      → Move f now v w got v' w' got'
  -- n bytes are read of w
  Reads : (n : ℕ)
      → n ≤ length w.rx_buffer.bytes
      → v' ≡ v
      → w' ≡ read_off w n
      → got' ≡ got ++ take n w.rx_buffer.bytes
      → Move f now v w got v' w' got'

-- a list of them, whose moments do not go back
pub data Moves (f : Facts) : Instant → View → View → List ℕ → Instant → View → View → List ℕ → Type 0 where
  NoMove : (at : Instant) (v w : View) (got : List ℕ) → Moves f at v w got at v w got
  OneMore : (at now end : Instant) (v w u x v' w' : View) (got more got' : List ℕ)
      → at.micros ≤ℤ now.micros
      → Move f now v w got u x more
      → Moves f now u x more end v' w' got'
      → Moves f at v w got end v' w' got'

-- ---- the law

-- Some such list empties the sender's transmit queue, and all of it that the receiver had not taken before was read of
-- the receiver, in order. They stand in step again, and the receiver took nothing that the sender has not heard of
pub record Completes (d : Option Duration) (t s : Tuple) (f : Facts) (at : Instant) (v w : View) (got : List ℕ)
    (i : InStep d t s v w) : Type 0 where
  pub end : Instant
  pub sender : View
  pub receiver : View
  pub moves : Moves f at v w got end sender receiver (got ++ drop i.taken v.tx_buffer.bytes)
  pub sent : length sender.tx_buffer.bytes ≡ 0
  pub in_step : InStep d t s sender receiver

-- from any moment on, in any context that has both addresses
abbrev pub FromInStep : ((d : Option Duration) (t s : Tuple) (f : Facts) (at : Instant) (v w : View) (got : List ℕ)
    → InStep d t s v w → Type 0) → Type 0
FromInStep Comes = (d : Option Duration) (t s : Tuple) (f : Facts) (at : Instant) (v w : View) (got : List ℕ)
    → IsMtu f.mtu
    → f.has_address t.local.addr ≡ true
    → f.has_address s.local.addr ≡ true
    → (i : InStep d t s v w)
    → Comes d t s f at v w got i

abbrev pub OneWayCompletes : Type 0
OneWayCompletes = FromInStep (λ d t s f at v w got i. Completes d t s f at v w got i)

-- ---- the end of the stream

-- After such a list the sender closes, its FIN reaches the receiver, and reads there answer `Finished`
pub record Finishes (d : Option Duration) (t s : Tuple) (f : Facts) (at : Instant) (v w : View) (got : List ℕ)
    (i : InStep d t s v w) : Type 0 where
  pub bytes : Completes d t s f at v w got i
  pub now : Instant
  pub later : bytes.end.micros ≤ℤ now.micros
  pub out : Sending
  pub sender : View
  pub receiver : View
  pub dispatch : DispatchesOk (told f now) (closed bytes.sender) (Some out) sender
  pub reaches : processed bytes.receiver now 0 out.ip out.segment ≡ record { view = receiver; reply = None }
  pub finished : recv_check receiver ≡ Err recv_error.Finished

abbrev pub OneWayFinishes : Type 0
OneWayFinishes = FromInStep (λ d t s f at v w got i. Finishes d t s f at v w got i)
