-- A side that accepts more bytes is in step as before.
use Rattle.std.proofs.Common.{◌≡◌, ℕ, ◌<◌, Bool, true, false, not, ◌&&◌, refl, sym, ap, subst, ◌∙◌, List, length, take, Option, arith, length-append}
use Rattle.std.specs.Prelude.{if◌then◌else◌, ◌==◌}
use Rattle.net_base.specs.declared.time.Duration.{Duration}
use Rattle.sock_tcp.specs.Queues.{Sends, fitting, may_send, queued, timer_after, first_probe}
use Rattle.sock_tcp.specs.Timers.{is_idle}
use Rattle.sock_tcp.specs.View.{View}
use Rattle.sock_tcp.specs.Window.{receive_window}
use Rattle.sock_tcp.specs.declared.tuple.Tuple.{Tuple}
use Rattle.tcp_laws.specs.Polling.{IsReached}
use Rattle.tcp_laws.specs.SocketRun.{SendSlice, accepted, with_sent}
use Rattle.progress_laws.specs.BothWays.{BothInStep, IsSide, SendingKeepsInStep, StaysInStep, Toward}
use Rattle.progress_laws.specs.InStep.{ForAnswer, ForKeepAlive, ForNothing, ForProbe, Rests}
use Rattle.progress_laws.proofs.Begins.{not_zero, step_reached}

module _ (v : View) (n : ℕ) (bs : List ℕ) (some : 0 < v.remote_win_len) where
  -- with a window no probes begin
  same_timer : timer_after v n ≡ v.timer
  same_timer = rw (not_zero v.remote_win_len some) (go (not (n == 0)))
    where
      go : (b : Bool) → (if b && false && is_idle v.timer then first_probe v.rtte else v.timer) ≡ v.timer
      go true = refl
      go false = refl

  rests_then : Rests v → Rests (queued v n bs)
  unfolding queued
  rests_then (ForKeepAlive at idle nxt) = ForKeepAlive at (same_timer ∙ idle) nxt
  rests_then (ForNothing idle nxt win) = ForNothing (same_timer ∙ idle) nxt win
  rests_then (ForProbe at delay probes nxt queue) = ForProbe at delay (same_timer ∙ probes) nxt (omega (arith, queue, length-append v.tx_buffer.bytes (take n bs)))
  rests_then (ForAnswer at again) = ForAnswer at (same_timer ∙ again)

  side_then : (d : Option Duration) (t : Tuple) → IsReached (queued v n bs) → IsSide d t v → IsSide d t (queued v n bs)
  unfolding queued
  side_then d t reached s = record {
    sender = record { reached = reached; state = s.sender.state; peer = s.sender.peer; no_timeout = s.sender.no_timeout; smoltcp = s.sender.smoltcp; keep_alive = s.sender.keep_alive; nothing_marked = s.sender.nothing_marked; rests = rests_then s.sender.rests };
    established = s.established;
    read = s.read;
    room = s.room;
    nothing_held = s.nothing_held;
    room_at_least = s.room_at_least;
  }

over_then : (v w : View) (n : ℕ) (bs : List ℕ) → Toward v w → Toward (queued v n bs) w
unfolding queued
over_then v w n bs o = record { taken = o.taken; taken_within = omega (arith, o.taken_within, length-append v.tx_buffer.bytes (take n bs)); there = o.there; scale = o.scale; some = o.some; window = o.window; at_most = o.at_most }

back_then : (v w : View) (n : ℕ) (bs : List ℕ) → Toward w v → Toward w (queued v n bs)
unfolding queued receive_window
back_then v w n bs o = record { taken = o.taken; taken_within = o.taken_within; there = o.there; scale = o.scale; some = o.some; window = o.window; at_most = o.at_most }

module _ (d e : Option Duration) (t s : Tuple) (v w : View) (n : ℕ) (bs : List ℕ) (i : BothInStep d e t s v w) where
  here_then : IsReached (queued v n bs) → StaysInStep d e t s v w (queued v n bs) w i
  unfolding queued over_then back_then
  here_then reached = record { in_step = record { here = side_then v n bs i.over.some d t reached i.here; across = i.across; over = over_then v w n bs i.over; back = back_then v w n bs i.back; in_reach = i.in_reach }; over = refl; back = refl }

  across_then : IsReached (queued w n bs) → StaysInStep d e t s v w v (queued w n bs) i
  unfolding queued over_then back_then
  across_then reached = record { in_step = record { here = i.here; across = side_then w n bs i.back.some e s reached i.across; over = back_then w v n bs i.over; back = over_then w v n bs i.back; in_reach = i.in_reach }; over = refl; back = refl }

pub sending_keeps_in_step : SendingKeepsInStep
sending_keeps_in_step d e t s v w x bs r i = (here, across)
  where
    written_so : (y : View) → may_send y.state ≡ true → Sends y bs r x → x ≡ queued y (fitting y (length bs)) bs
    written_so y may h = h.view ∙ ap (λ b. if b then queued y (fitting y (length bs)) bs else y) may

    reached_so : (y : View) → IsReached y → Sends y bs r x → IsReached x
    reached_so y p h = step_reached y x (with_sent p.counts (accepted bs r)) p (SendSlice bs r h refl)

    here : Sends v bs r x → StaysInStep d e t s v w x w i
    here h = let is = written_so v i.here.sender.state h in subst (λ y. StaysInStep d e t s v w y w i) (sym is) (here_then d e t s v w (fitting v (length bs)) bs i (subst IsReached is (reached_so v i.here.sender.reached h)))

    across : Sends w bs r x → StaysInStep d e t s v w v x i
    across h = let is = written_so w i.across.sender.state h in subst (λ y. StaysInStep d e t s v w v y i) (sym is) (across_then d e t s v w (fitting w (length bs)) bs i (subst IsReached is (reached_so w i.across.sender.reached h)))
