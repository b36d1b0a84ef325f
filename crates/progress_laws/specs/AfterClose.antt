-- A sender that was closed with bytes to send, and how they and its FIN come over.
use Rattle.std.specs.Prelude.{ℕ, ◌≡◌, ◌⊎◌, ◌<◌, ◌^◌, ◌≤◌, List, [], ◌++◌, length, drop, replicate, Option, None, Err}
use Rattle.std.specs.Prelude.{true}
use Rattle.net_base.specs.declared.time.Duration.{Duration}
use Rattle.net_base.specs.declared.time.Instant.{Instant}
use Rattle.control_wire.specs.Seq.{seq_add, seq_sub}
use Rattle.sock_core.specs.Bounds.{IsMtu}
use Rattle.sock_core.specs.Facts.{Facts}
use Rattle.sock_tcp.specs.Due.{is_closing}
use Rattle.sock_tcp.specs.Queues.{receives, recv_check}
use Rattle.sock_tcp.specs.View.{View}
use Rattle.sock_tcp.specs.Window.{next_ack}
use Rattle.sock_tcp.specs.declared.error.RecvError.TheVariants as recv_error
use Rattle.sock_tcp.specs.declared.timer.Timer.TheVariants as timer
use Rattle.sock_tcp.specs.declared.tuple.Tuple.{Tuple}
use Rattle.tcp_laws.specs.Polling.{IsReached}
use Rattle.progress_laws.specs.BothWays.{Toward, window_told}
use Rattle.progress_laws.specs.InStep.{IsSenderIn, Moves}
use Rattle.sock_tcp.specs.declared.rules.Rules.TheVariants as rules

-- ---- the two sides

-- a sender that was closed, in FIN-WAIT-1, CLOSING or LAST-ACK
abbrev pub IsCloser : Option Duration → Tuple → View → Type 0
IsCloser d t v = IsSenderIn is_closing d t v

-- The receiver w is what some list of calls makes of a new socket, with smoltcp's rules. It is in ESTABLISHED,
-- FIN-WAIT-1 or FIN-WAIT-2, whatever it has to send, and not in the timer of TIME-WAIT. All that it took was read, and
-- it holds nothing. It has room for so many bytes, at least for one unit of its window field
pub record IsTaker (w : View) : Type 0 where
  pub reached : IsReached w
  pub smoltcp : w.rules ≡ rules.Smoltcp
  pub state : receives w.state ≡ true
  pub timer : (at : Instant) → w.timer ≡ timer.Close at → ⊥
  pub read : w.rx_buffer.bytes ≡ []
  pub room : ℕ
  pub nothing_held : w.rx_buffer.held ≡ replicate room None
  pub room_at_least : 2 ^ w.remote_win_shift ≤ room

-- The sender knows a window above 0 (`Toward`). They agree on the numbers of w's stream, too: v took so many bytes of
-- its queue, and has not counted a FIN of w that waits for its acknowledgement. SND.NXT of w is RCV.NXT of v, or lies
-- in the window that v tells now
pub record AfterClose (d : Option Duration) (t : Tuple) (v w : View) : Type 0 where
  pub sender : IsCloser d t v
  pub receiver : IsTaker w
  pub over : Toward v w
  pub heard : ℕ
  pub heard_within : heard ≤ length w.tx_buffer.bytes
  pub back : next_ack v ≡ seq_add w.local_seq_no heard
  pub in_reach : (w.remote_last_seq ≡ next_ack v) ⊎ (seq_sub w.remote_last_seq (next_ack v) < window_told v)

-- ---- the law

-- Some list of dispatches, deliveries and reads brings over all that the receiver had not taken before, in order, and
-- then reads there answer `Finished`
pub record BringsAll (d : Option Duration) (t : Tuple) (f : Facts) (at : Instant) (v w : View) (got : List ℕ)
    (i : AfterClose d t v w) : Type 0 where
  pub end : Instant
  pub sender : View
  pub receiver : View
  pub moves : Moves f at v w got end sender receiver (got ++ drop i.over.taken v.tx_buffer.bytes)
  pub finished : recv_check receiver ≡ Err recv_error.Finished

-- from any moment on, in any context that has the sender's address
abbrev pub ClosedSenderFinishes : Type 0
ClosedSenderFinishes = (d : Option Duration) (t : Tuple) (f : Facts) (at : Instant) (v w : View) (got : List ℕ)
    → IsMtu f.mtu
    → f.has_address t.local.addr ≡ true
    → (i : AfterClose d t v w)
    → BringsAll d t f at v w got i
