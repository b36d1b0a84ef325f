-- Two sockets in ESTABLISHED of which one or both know a window of 0, and what they can do in turn.
use Rattle.std.specs.Prelude.{ℕ, ◌≡◌, ◌⊎◌, ◌+◌, ◌<◌, ◌≤◌, List, ◌++◌, length, drop, Option, is_some, true}
use Rattle.net_base.specs.declared.time.Duration.{Duration}
use Rattle.net_base.specs.declared.time.Instant.{Instant}
use Rattle.control_wire.specs.Seq.{seq_add, seq_sub}
use Rattle.sock_core.specs.Bounds.{IsMtu}
use Rattle.sock_core.specs.Facts.{Facts}
use Rattle.sock_tcp.specs.Steps.{scale_of}
use Rattle.sock_tcp.specs.View.{View}
use Rattle.sock_tcp.specs.Window.{next_ack, receive_window}
use Rattle.sock_tcp.specs.declared.timer.Timer.TheVariants as timer
use Rattle.sock_tcp.specs.declared.tuple.Tuple.{Tuple}
use Rattle.progress_laws.specs.BothWays.{BothFinish, BothInStep, IsSide, Turns, window_told}

-- ---- the two sides

-- how wide the receive window of v is
abbrev pub width : View → ℕ
width v = seq_sub (receive_window v).end (receive_window v).start

-- The bytes from v to w, as in `Toward`, but that v may know a window of 0
pub record TowardShut (v w : View) : Type 0 where
  pub scale : scale_of v.remote_win_scale ≡ w.remote_win_shift
  pub taken : ℕ
  pub taken_within : taken ≤ length v.tx_buffer.bytes
  pub there : next_ack w ≡ seq_add v.local_seq_no taken
  pub window : v.remote_win_len ≤ taken + width w
  pub at_most : v.remote_win_len ≤ window_told w

-- The side v knows a window above 0; or it has a keep-alive interval, at least while its retransmission timer runs, so
-- that it comes to send a keep-alive or a probe, and hears the answer: SND.NXT of w is RCV.NXT of v, or lies in the
-- window that v tells now. That it has told before
pub data CanHear (v w : View) : Type 0 where
  KnowsOne : 0 < v.remote_win_len → CanHear v w
  WillAsk : ((at : Instant) → v.timer ≡ timer.Retransmit at → is_some v.keep_alive ≡ true)
      → (w.remote_last_seq ≡ next_ack v) ⊎ (seq_sub w.remote_last_seq (next_ack v) < window_told v)
      → window_told v ≤ width v
      → CanHear v w

-- Both ways, as in `BothInStep`, but for the windows
pub record SidesShut (d e : Option Duration) (t s : Tuple) (v w : View) : Type 0 where
  pub here : IsSide d t v
  pub across : IsSide e s w
  pub over : TowardShut v w
  pub back : TowardShut w v
  pub hears_here : CanHear v w
  pub hears_across : CanHear w v

-- and SND.NXT of w lies in the window that v tells now
pub record BothShut (d e : Option Duration) (t s : Tuple) (v w : View) : Type 0 where
  pub sides : SidesShut d e t s v w
  pub in_reach : seq_sub w.remote_last_seq (next_ack v) < window_told v

-- ---- the law

-- Some list of dispatches, deliveries and reads brings them in step. What was read then, and what waits and was not
-- taken, is together what it was, both ways
pub record WindowsOpen (d e : Option Duration) (t s : Tuple) (f : Facts) (at : Instant) (v w : View) (got back : List ℕ)
    (i : BothShut d e t s v w) : Type 0 where
  pub end : Instant
  pub here : View
  pub across : View
  pub more : List ℕ
  pub less : List ℕ
  pub turns : Turns f at v w got back end here across more less
  pub in_step : BothInStep d e t s here across
  pub whole : more ++ drop in_step.over.taken here.tx_buffer.bytes ≡ got ++ drop i.sides.over.taken v.tx_buffer.bytes
  pub whole_back : less ++ drop in_step.back.taken across.tx_buffer.bytes
      ≡ back ++ drop i.sides.back.taken w.tx_buffer.bytes

-- and then both streams come to their end
pub record ShutFinish (d e : Option Duration) (t s : Tuple) (f : Facts) (at : Instant) (v w : View) (got back : List ℕ)
    (i : BothShut d e t s v w) : Type 0 where
  pub windows : WindowsOpen d e t s f at v w got back i
  pub ends : BothFinish d e t s f windows.end windows.here windows.across windows.more windows.less windows.in_step

-- from any moment on, in any context that has both addresses
abbrev pub ShutWindowsOpen : Type 0
ShutWindowsOpen = (d e : Option Duration) (t s : Tuple) (f : Facts) (at : Instant) (v w : View) (got back : List ℕ)
    → IsMtu f.mtu
    → f.has_address t.local.addr ≡ true
    → f.has_address s.local.addr ≡ true
    → (i : BothShut d e t s v w)
    → ShutFinish d e t s f at v w got back i
