-- Two sockets in ESTABLISHED that both have bytes to send, and what they can do in turn.
use Rattle.std.specs.Prelude.{ℕ, ◌≡◌, ◌+◌, ◌*◌, ◌^◌, ◌<◌, ◌≤◌, ◌≤ℤ◌, List, [], ◌++◌, length, drop, replicate, Option}
use Rattle.std.specs.Prelude.{Some, None, Result, Err, true}
use Rattle.net_base.specs.declared.time.Duration.{Duration}
use Rattle.net_base.specs.declared.time.Instant.{Instant}
use Rattle.control_wire.specs.Seq.{seq_add, seq_sub}
use Rattle.sock_core.specs.Bounds.{IsMtu}
use Rattle.sock_core.specs.Facts.{Facts}
use Rattle.sock_tcp.specs.Closing.{closed}
use Rattle.sock_tcp.specs.Content.{Sending}
use Rattle.sock_tcp.specs.Rfc.OwnWindow.{space_field}
use Rattle.progress_laws.specs.Smoltcp.{processed}
use Rattle.sock_tcp.specs.Queues.{Sends, recv_check}
use Rattle.sock_tcp.specs.Steps.{scale_of}
use Rattle.sock_tcp.specs.View.{View}
use Rattle.sock_tcp.specs.Window.{next_ack, receive_window}
use Rattle.sock_tcp.specs.declared.error.RecvError.TheVariants as recv_error
use Rattle.sock_tcp.specs.declared.error.SendError.{SendError}
use Rattle.sock_tcp.specs.declared.state.State.TheVariants as state
use Rattle.sock_tcp.specs.declared.tuple.Tuple.{Tuple}
use Rattle.progress_laws.specs.InStep.{IsSender, Move, told}
use Rattle.progress_laws.specs.Speech.{DispatchesOk}

-- ---- the two sides

-- A side v with the peer t is a sender (`IsSender`), in ESTABLISHED, with the keep-alive interval d or with none. All
-- that it took was read, and it holds nothing. It has room for so many bytes, at least for one unit of its window field
pub record IsSide (d : Option Duration) (t : Tuple) (v : View) : Type 0 where
  pub sender : IsSender d t v
  pub established : v.state ≡ state.Established
  pub read : v.rx_buffer.bytes ≡ []
  pub room : ℕ
  pub nothing_held : v.rx_buffer.held ≡ replicate room None
  pub room_at_least : 2 ^ v.remote_win_shift ≤ room

-- what a segment of v tells as its window
abbrev pub window_told : View → ℕ
window_told v = space_field v * 2 ^ v.remote_win_shift

-- The bytes from v to w. They agree on the numbers, and on the scale of the window. The side w took so many bytes that
-- v has not heard of. The window that v knows is above 0, lies within the receive window of w, and is no more than what
-- w tells now
pub record Toward (v w : View) : Type 0 where
  pub taken : ℕ
  pub taken_within : taken ≤ length v.tx_buffer.bytes
  pub there : next_ack w ≡ seq_add v.local_seq_no taken
  pub scale : scale_of v.remote_win_scale ≡ w.remote_win_shift
  pub some : 0 < v.remote_win_len
  pub window : v.remote_win_len ≤ taken + seq_sub (receive_window w).end (receive_window w).start
  pub at_most : v.remote_win_len ≤ window_told w

-- Both ways. SND.NXT of w lies in the window that v tells now, which begins at RCV.NXT of v
pub record BothInStep (d e : Option Duration) (t s : Tuple) (v w : View) : Type 0 where
  pub here : IsSide d t v
  pub across : IsSide e s w
  pub over : Toward v w
  pub back : Toward w v
  pub in_reach : seq_sub w.remote_last_seq (next_ack v) < window_told v

-- ---- what they do in turn

-- A move (`Move`) of the one or of the other. got: what was read of w; back: what was read of v
pub data Turn (f : Facts) (now : Instant) (v w : View) (got back : List ℕ) (v' w' : View) (got' back' : List ℕ)
    : Type 0 where
  OfThis : Move f now v w got v' w' got' → back' ≡ back → Turn f now v w got back v' w' got' back'
  OfThat : Move f now w v back w' v' back' → got' ≡ got → Turn f now v w got back v' w' got' back'

-- a list of them, whose moments do not go back
pub data Turns (f : Facts) : Instant → View → View → List ℕ → List ℕ → Instant → View → View → List ℕ → List ℕ
    → Type 0 where
  NoTurn : (at : Instant) (v w : View) (got back : List ℕ) → Turns f at v w got back at v w got back
  NextTurn : (at now end : Instant) (v w u x v' w' : View) (got back more less got' back' : List ℕ)
      → at.micros ≤ℤ now.micros
      → Turn f now v w got back u x more less
      → Turns f now u x more less end v' w' got' back'
      → Turns f at v w got back end v' w' got' back'

-- ---- the law

-- Some such list empties both transmit queues; and of either side all that it had not taken before was read, in order.
-- They stand in step again, the other way round
pub record BothComplete (d e : Option Duration) (t s : Tuple) (f : Facts) (at : Instant) (v w : View)
    (got back : List ℕ) (i : BothInStep d e t s v w) : Type 0 where
  pub end : Instant
  pub here : View
  pub across : View
  pub turns : Turns f at v w got back end here across (got ++ drop i.over.taken v.tx_buffer.bytes)
      (back ++ drop i.back.taken w.tx_buffer.bytes)
  pub sent_here : length here.tx_buffer.bytes ≡ 0
  pub sent_across : length across.tx_buffer.bytes ≡ 0
  pub in_step : BothInStep e d s t across here

-- from any moment on, in any context that has both addresses
abbrev pub FromBothInStep : ((d e : Option Duration) (t s : Tuple) (f : Facts) (at : Instant) (v w : View)
    (got back : List ℕ) → BothInStep d e t s v w → Type 0) → Type 0
FromBothInStep Comes = (d e : Option Duration) (t s : Tuple) (f : Facts) (at : Instant) (v w : View) (got back : List ℕ)
    → IsMtu f.mtu
    → f.has_address t.local.addr ≡ true
    → f.has_address s.local.addr ≡ true
    → (i : BothInStep d e t s v w)
    → Comes d e t s f at v w got back i

abbrev pub BothWaysComplete : Type 0
BothWaysComplete = FromBothInStep (λ d e t s f at v w got back i. BothComplete d e t s f at v w got back i)

-- ---- both streams end

-- v closes; its FIN goes out, which leaves v', and reaches w, which becomes w'; reads there answer `Finished`
pub record ClosesTo (f : Facts) (now : Instant) (v w v' w' : View) : Type 0 where
  pub out : Sending
  pub dispatch : DispatchesOk (told f now) (closed v) (Some out) v'
  pub reaches : processed w now 0 out.ip out.segment ≡ record { view = w'; reply = None }
  pub finished : recv_check w' ≡ Err recv_error.Finished

-- After such a list the one closes, and then the other
pub record BothFinish (d e : Option Duration) (t s : Tuple) (f : Facts) (at : Instant) (v w : View)
    (got back : List ℕ) (i : BothInStep d e t s v w) : Type 0 where
  pub bytes : BothComplete d e t s f at v w got back i
  pub now : Instant
  pub later : bytes.end.micros ≤ℤ now.micros
  pub here : View
  pub across : View
  pub one : ClosesTo f now bytes.here bytes.across here across
  pub end : Instant
  pub later_still : now.micros ≤ℤ end.micros
  pub last_here : View
  pub last_across : View
  pub other : ClosesTo f end across here last_across last_here

abbrev pub BothWaysFinish : Type 0
BothWaysFinish = FromBothInStep (λ d e t s f at v w got back i. BothFinish d e t s f at v w got back i)

-- ---- more bytes

-- in step as before, with as many bytes taken that were not heard of
pub record StaysInStep (d e : Option Duration) (t s : Tuple) (v w v' w' : View) (i : BothInStep d e t s v w) : Type 0
  where
    pub in_step : BothInStep d e t s v' w'
    pub over : in_step.over.taken ≡ i.over.taken
    pub back : in_step.back.taken ≡ i.back.taken

-- `send_slice` of any bytes, on the one or on the other, whether they fit or not
abbrev pub SendingKeepsInStep : Type 0
SendingKeepsInStep = (d e : Option Duration) (t s : Tuple) (v w x : View) (bs : List ℕ) (r : Result ℕ SendError)
    → (i : BothInStep d e t s v w)
    → (Sends v bs r x → StaysInStep d e t s v w x w i) × (Sends w bs r x → StaysInStep d e t s v w v x i)
