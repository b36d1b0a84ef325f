-- How a speaker waits once it heard a segment that tells a window.
use Rattle.std.proofs.Common.{◌≡◌, ◌*◌, ◌<◌, ◌≤◌, ◌^◌, ◌⊎◌, inl, inr, Bool, true, false, refl, sym, ap, subst, ◌∙◌, length, Option, Some, arith}
use Rattle.std.specs.Prelude.{if◌then◌else◌, ◌==◌}
use Rattle.net_base.specs.declared.time.Instant.{Instant}
use Rattle.control_wire.specs.Segment.{Segment}
use Rattle.control_wire.specs.Seq.{seq_sub}
use Rattle.control_wire.specs.declared.seq_number.TcpSeqNumber.{TcpSeqNumber}
use Rattle.sock_core.specs.Seq.{is_before, is_not_after, later_of}
use Rattle.sock_tcp.proofs.Windows.{not_far}
use Rattle.sock_tcp.specs.Steps.{ack_counted, ack_heard, acknowledged, begins_probe, duplicate_counted, heard, is_duplicate, is_window_changed, probe_ended, probe_set, released, retransmission_acked, scale_of, timer_acked, timer_set, timestamp_taken, una_advanced, window_of, window_taken}
use Rattle.sock_tcp.specs.Timers.{after, idle_from, probe_from, retransmit_from, rto_of}
use Rattle.sock_tcp.specs.View.{View}
use Rattle.sock_tcp.specs.declared.acked.Acked.{Acked}
use Rattle.sock_tcp.specs.declared.timer.Timer.{Timer}
use Rattle.sock_tcp.specs.declared.timer.Timer.TheVariants as timer
use Rattle.progress_laws.specs.Agreement.{ForAnswer, ForKeepAlive, ForProbe, ForRepeat, Waits}
use Rattle.progress_laws.proofs.Begins.{not_zero}
use Rattle.progress_laws.proofs.Edges.{later_all, later_is, later_stays, same_seq}
use Rattle.progress_laws.proofs.Hears.{HeardAs, IsSaid, heard_as, idle_ends, idle_is, idle_moment, scaled}
use Rattle.progress_laws.proofs.Says.{AtFront}

-- ---- its timer

-- that of a retransmission runs, or of a fast one; or it is idle, which wants F, or that all is acknowledged
data TimerThen (F : Type 0) (all : Bool) (t : Timer) : Type 0 where
  Again : (at : Instant) → t ≡ timer.Retransmit at → TimerThen F all t
  Repeats : t ≡ timer.FastRetransmit → TimerThen F all t
  Idles : (o : Option Instant) → t ≡ timer.Idle o → F ⊎ (all ≡ true) → TimerThen F all t

-- with an idle timer, and with that of probes, F holds
abbrev AsksFront : Timer → Type 0 → Type 0
AsksFront (timer.Idle o) F = F
AsksFront (timer.Retransmit at) F = Unit {0}
AsksFront timer.FastRetransmit F = Unit {0}
AsksFront (timer.ZeroWindowProbe at delay) F = F
AsksFront (timer.Close at) F = ⊥

module _ (F : Type 0) (y : View) (now : Instant) (a : Acked) (open_ : (y.remote_win_len == 0) ≡ false) where
  abbrev ends : Timer → Timer
  ends t = probe_set (timer_acked t y now a) y now a

  ended : (t : Timer) → ends t ≡ probe_ended (timer_acked t y now a) y now
  ended t = ap (λ b. if b then (if begins_probe (timer_acked t y now a) y a then probe_from now y.rtte else timer_acked t y now a) else probe_ended (timer_acked t y now a) y now) open_

  idle : probe_ended (idle_from now y.keep_alive) y now ≡ timer.Idle (idle_moment now y.keep_alive)
  idle = idle_ends y now a y.keep_alive ∙ idle_is now y.keep_alive

  again : (t : Timer) → probe_ended t y now ≡ t → TimerThen F a.all t → TimerThen F a.all (probe_ended (retransmission_acked t y now a) y now)
  again t stays kept = go a.all refl (a.len == 0)
    where
      go : (all : Bool) → a.all ≡ all → (none : Bool) → TimerThen F a.all (probe_ended (if all then idle_from now y.keep_alive else (if none then t else retransmit_from now y.rtte)) y now)
      go true e none = Idles (idle_moment now y.keep_alive) idle (inr e)
      go false e true = subst (TimerThen F a.all) (sym stays) kept
      go false e false = Again (after now (rto_of y.rtte)) refl

  timer_then : (t : Timer) → AsksFront t F → TimerThen F a.all (ends t)
  timer_then (timer.Idle o) f = Idles (idle_moment now y.keep_alive) (ended (timer.Idle o) ∙ idle) (inl f)
  timer_then (timer.Retransmit at) f = subst (TimerThen F a.all) (sym (ended (timer.Retransmit at))) (again (timer.Retransmit at) refl (Again at refl))
  timer_then timer.FastRetransmit f = subst (TimerThen F a.all) (sym (ended timer.FastRetransmit)) (again timer.FastRetransmit refl (Repeats refl))
  timer_then (timer.ZeroWindowProbe at delay) f = Idles (idle_moment now y.keep_alive) (ended (timer.ZeroWindowProbe at delay) ∙ idle_is now y.keep_alive) (inl f)
  timer_then (timer.Close at) f = absurd f

asks_front : (x : View) → Waits x → AsksFront x.timer (AtFront x)
asks_front x (ForAnswer at e) = subst (λ t. AsksFront t (AtFront x)) (sym e) tt
asks_front x (ForRepeat e) = subst (λ t. AsksFront t (AtFront x)) (sym e) tt
asks_front x (ForKeepAlive o e front) = subst (λ t. AsksFront t (AtFront x)) (sym e) front
asks_front x (ForProbe at delay e front) = subst (λ t. AsksFront t (AtFront x)) (sym e) (by front)
  where
    by : (x.pending_fast_retransmit ≡ true) ⊎ ((x.remote_last_seq ≡ x.local_seq_no) × (0 < length x.tx_buffer.bytes)) → AtFront x
    by (inl m) = inl m
    by (inr q) = inr q.0

module _ (x : View) (now : Instant) (a : Acked) (s : Segment) (k : TcpSeqNumber) (number : s.ack_number ≡ Some k) (bit : IsSaid s.control) (win : 0 < s.window_len * 2 ^ scale_of x.remote_win_scale) (waits : Waits x) where
  abbrev heard_view : View
  heard_view = heard x now a s

  heard_timer : TimerThen (AtFront x) a.all heard_view.timer
  unfolding heard acknowledged window_taken released duplicate_counted ack_counted una_advanced timestamp_taken timer_set
  heard_timer = subst (λ o. TimerThen (AtFront x) a.all (timer_set (timestamp_taken (acknowledged z o now a.len (length s.payload) changed) s) now a).timer) (sym number) (either (is_duplicate z k (length s.payload) changed))
    where
      z : View
      z = released (window_taken x now s.control s.window_len) a.len

      changed : Bool
      changed = is_window_changed x s.control s.window_len

      open_ : (window_of s.control s.window_len x.remote_win_scale == 0) ≡ false
      open_ = not_zero (window_of s.control s.window_len x.remote_win_scale) (subst (λ n. 0 < n) (sym (scaled s.control s.window_len x.remote_win_scale bit)) win)

      third : (b : Bool) → AsksFront (if b then timer.FastRetransmit else x.timer) (AtFront x)
      third true = tt
      third false = asks_front x waits

      either : (b : Bool) → TimerThen (AtFront x) a.all (timer_set (timestamp_taken (ack_heard b z now k a.len) s) now a).timer
      either true = timer_then (AtFront x) (timestamp_taken (ack_heard true z now k a.len) s) now a open_ (if x.local_rx_dup_acks == 2 then timer.FastRetransmit else x.timer) (third (x.local_rx_dup_acks == 2))
      either false = timer_then (AtFront x) (timestamp_taken (ack_heard false z now k a.len) s) now a open_ x.timer (asks_front x waits)

  -- where k acknowledges what lies not far behind SND.UNA
  pub waits_on : (a.all ≡ true → is_not_after x.remote_last_seq k ≡ true) → x.local_seq_no.0 < 2 ^ 32 → k.0 < 2 ^ 32 → seq_sub k x.local_seq_no ≤ 2 ^ 30 → Waits heard_view
  waits_on all una_small small near = by heard_timer
    where
      h : HeardAs x k a.len (s.window_len * 2 ^ scale_of x.remote_win_scale) heard_view
      h = heard_as x now a s k number bit

      reach : later_of x.local_seq_no k ≡ k
      reach = go (is_before x.local_seq_no k) refl
        where
          go : (b : Bool) → is_before x.local_seq_no k ≡ b → later_of x.local_seq_no k ≡ k
          go true e = later_is x.local_seq_no k e
          go false e = later_stays x.local_seq_no k e ∙ same_seq x.local_seq_no k (omega (arith, not_far x.local_seq_no k e, una_small, small, near))

      front : AtFront x → AtFront heard_view
      front (inl m) = inl (h.marked ∙ m)
      front (inr e) = inr (h.nxt ∙ ap (λ m. later_of m k) e ∙ reach ∙ sym h.una)

      by : TimerThen (AtFront x) a.all heard_view.timer → Waits heard_view
      by (Again at e) = ForAnswer at e
      by (Repeats e) = ForRepeat e
      by (Idles o e (inl f)) = ForKeepAlive o e (front f)
      by (Idles o e (inr i)) = ForKeepAlive o e (inr (h.nxt ∙ later_all x.remote_last_seq k (all i) ∙ sym h.una))
