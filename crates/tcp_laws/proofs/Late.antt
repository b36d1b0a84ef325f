-- Losses that are waited for once reordering was seen.
use Rattle.std.proofs.Common.{◌≡◌, ℕ, Bool, true, false, not, ◌&&◌, ◌≤◌, ◌+◌, ◌*◌, refl, sym, ap, subst, ◌∙◌, arith, length, Option, Some, None}
use Rattle.std.specs.Prelude.{if◌then◌else◌, ◌==◌, min, pos, ◌+ℤ◌, ◌≤ℤ◌, int_le}
use Rattle.std.proofs.lemmas.Bool.{and_from, and_parts}
use Rattle.std.proofs.lemmas.Int.{ints}
use Rattle.net_base.specs.declared.time.Duration.{Duration}
use Rattle.net_base.specs.declared.time.Instant.{Instant}
use Rattle.control_wire.specs.declared.seq_number.TcpSeqNumber.{TcpSeqNumber}
use Rattle.sock_core.specs.Estimator.{Estimator, srtt_of}
use Rattle.sock_core.specs.Facts.{Facts}
use Rattle.sock_core.specs.Seq.{is_before}
use Rattle.sock_tcp.specs.Begin.{Begun, after_timers, before_emit, before_emit_to, begun, begun_to, going_on, is_paused, last_ts_set, last_ts_set_at, peer_of, readied, told_ready, unless_paused}
use Rattle.sock_tcp.specs.Content.{carries_data}
use Rattle.sock_tcp.specs.Due.{data_due, flight, is_due}
use Rattle.sock_tcp.specs.Polls.{is_reached, timeout_poll}
use Rattle.sock_tcp.specs.Rfc.UserTimeout.{timeout_of}
use Rattle.sock_tcp.specs.Queue.{Queue}
use Rattle.sock_tcp.specs.Rfc.Recovery.{again, again_by, before_of, begins, echo_known, gone_on, gone_on_from, has_timer, heard_for, is_called, is_later_partial, is_lost_again, is_news, is_undone, is_waited, kept_if, left_running, probe_from_last, probe_soonest, recovered, recovery_after, reordering_after, running, spared, tells_controller, tells_loss, waited_for, waits_late, waits_tail}
use Rattle.sock_tcp.specs.Rfc.Reordering.{is_late, is_over, is_told, late_set, late_wait, may_resend}
use Rattle.sock_tcp.specs.Rfc.TailLoss.{is_alone, may_speak, probed_by, probes_tail, tail_probed, tail_waits}
use Rattle.sock_tcp.specs.Timers.{after, is_over as is_past}
use Rattle.sock_tcp.specs.View.{View, moment_of}
use Rattle.sock_tcp.specs.declared.recovery.Before.{Before}
use Rattle.sock_tcp.specs.declared.recovery.Recovery.{Recovery}
use Rattle.sock_tcp.specs.declared.recovery.Recovery.TheVariants as recovery
use Rattle.sock_tcp.specs.declared.state.State.{State}
use Rattle.sock_tcp.specs.declared.state.State.TheVariants as state
use Rattle.sock_tcp.specs.declared.timer.Timer.{Timer}
use Rattle.sock_tcp.specs.declared.timer.Timer.TheVariants as timer
use Rattle.sock_tcp.specs.declared.tuple.Tuple.{Tuple}
use Rattle.tcp_laws.specs.Late.{BeginsRecovery, IsLateOver, IsOverBy, IsRunning, LateHoleGoesOut, NoLossIsForgotten, NothingSeenNothingIsLate, NothingSeenNothingWaits, WaitsForARoundTripAtMost, quarters_from}

-- ---- the timer

less_by : (now : Instant) (m r : ℕ) → (now.micros +ℤ pos (min m r)) ≤ℤ (now.micros +ℤ pos m)
less_by now m r = grind (arith, ints)

at_most_by : (at now : Instant) (m r : ℕ) → int_le at.micros (now.micros +ℤ pos (min m r)) ≡ true → at.micros ≤ℤ (now.micros +ℤ pos m)
at_most_by at now m r o = grind (arith, ints, o)

set_over : (c : Bool) (t : Timer) (now : Instant) (n : ℕ) (e : Estimator) → c ≡ true → IsRunning t → IsOverBy (late_set c t now (late_wait n e)) (quarters_from now n e)
set_over false t now n e is h = absurd cc
set_over true (timer.Retransmit at) now n e is h = by (is_past at (after now (late_wait n e))) refl
  where
    by : (o : Bool) → is_past at (after now (late_wait n e)) ≡ o → (if o then at else after now (late_wait n e)).micros ≤ℤ (quarters_from now n e).micros
    by true o = at_most_by at now (n * (srtt_of e.smoothed * 250)) (e.rto * 1000) o
    by false o = less_by now (n * (srtt_of e.smoothed * 250)) (e.rto * 1000)
set_over true timer.FastRetransmit now n e is h = tt
set_over true (timer.Idle at) now n e is h = absurd h
set_over true (timer.ZeroWindowProbe at delay) now n e is h = absurd h
set_over true (timer.Close at) now n e is h = absurd h

fast_over : (c : Bool) (now t : Instant) (d : Duration) → IsOverBy (late_set c timer.FastRetransmit now d) t
fast_over true now t d = tt
fast_over false now t d = tt

goes_running : (t : Timer) (now : Instant) (e : Estimator) → IsRunning (gone_on_from t now e)
goes_running (timer.Retransmit at) now e = tt
goes_running (timer.Idle at) now e = tt
goes_running timer.FastRetransmit now e = tt
goes_running (timer.ZeroWindowProbe at delay) now e = tt
goes_running (timer.Close at) now e = tt

still_running : (t : Timer) (sent queued : ℕ) (keep : Option Duration) (e : Estimator) (now : Instant) → IsRunning t → IsRunning (running t sent queued keep e now)
still_running (timer.Retransmit at) sent queued keep e now h = tt
still_running timer.FastRetransmit sent queued keep e now h = tt
still_running (timer.Idle at) sent queued keep e now h = absurd h
still_running (timer.ZeroWindowProbe at delay) sent queued keep e now h = absurd h
still_running (timer.Close at) sent queued keep e now h = absurd h

kept_running : (p : Bool) (u t : Timer) → IsRunning t → IsRunning (kept_if p u t)
kept_running true (timer.Retransmit at) (timer.Retransmit next) h = tt
kept_running true (timer.Retransmit at) timer.FastRetransmit h = tt
kept_running true (timer.Retransmit at) (timer.Idle next) h = absurd h
kept_running true (timer.Retransmit at) (timer.ZeroWindowProbe next delay) h = absurd h
kept_running true (timer.Retransmit at) (timer.Close next) h = absurd h
kept_running true (timer.Idle at) t h = h
kept_running true timer.FastRetransmit t h = h
kept_running true (timer.ZeroWindowProbe at delay) t h = h
kept_running true (timer.Close at) t h = h
kept_running false u t h = h

soonest_running : (o : Option Instant) (t : Timer) → IsRunning t → IsRunning (probe_soonest o t)
soonest_running o (timer.Retransmit at) h = tt
soonest_running o timer.FastRetransmit h = tt
soonest_running o (timer.Idle at) h = absurd h
soonest_running o (timer.ZeroWindowProbe at delay) h = absurd h
soonest_running o (timer.Close at) h = absurd h

last_running : (u : Timer) (o : Option Instant) (t : Timer) → IsRunning t → IsRunning (probe_from_last u o t)
last_running (timer.ZeroWindowProbe at delay) o t h = h
last_running (timer.Retransmit at) o t h = soonest_running o t h
last_running timer.FastRetransmit o t h = soonest_running o t h
last_running (timer.Idle at) o t h = soonest_running o t h
last_running (timer.Close at) o t h = soonest_running o t h

tail_running : (c : Bool) (t : Timer) (now : Instant) (e : Estimator) (alone : Bool) → IsRunning t → IsRunning (tail_waits c t now e alone)
tail_running true (timer.Retransmit at) now e alone h = tt
tail_running true timer.FastRetransmit now e alone h = tt
tail_running true (timer.Idle at) now e alone h = absurd h
tail_running true (timer.ZeroWindowProbe at delay) now e alone h = absurd h
tail_running true (timer.Close at) now e alone h = absurd h
tail_running false t now e alone h = h

-- ---- what goes on of a loss

over_again : (news lost : Bool) (r : Recovery) (una nxt : TcpSeqNumber) → is_over r ≡ true → is_over (again_by news lost r una nxt) ≡ true
over_again true lost recovery.Open una nxt e = refl
over_again true lost (recovery.Probe start end again) una nxt e = by (is_before end una)
  where
    by : (b : Bool) → is_over (if b then recovery.Open else recovery.Probe start end again) ≡ true
    by true = refl
    by false = refl
over_again false true recovery.Open una nxt e = refl
over_again false false recovery.Open una nxt e = refl
over_again false true (recovery.Probe start end again) una nxt e = refl
over_again false false (recovery.Probe start end again) una nxt e = refl
over_again news lost (recovery.Fast point high_rxt resent_at acked trailed una_lost) una nxt e = absurd cc
over_again news lost (recovery.Timeout point) una nxt e = absurd cc

over_gone : (u : Bool) (r : Recovery) (una : TcpSeqNumber) → is_over r ≡ true → is_over (gone_on (spared u r) una) ≡ true
over_gone true recovery.Open una e = refl
over_gone true (recovery.Probe start end again) una e = refl
over_gone false recovery.Open una e = refl
over_gone false (recovery.Probe start end again) una e = refl
over_gone u (recovery.Fast point high_rxt resent_at acked trailed una_lost) una e = absurd cc
over_gone u (recovery.Timeout point) una e = absurd cc

over_after : (b : Before) (w : View) → is_over b.recovery ≡ true → begins b w ≡ false → is_over (recovery_after b w) ≡ true
over_after b w over begun = carries (carries_data w.state)
  where
    by : (t : Bool) → t ≡ false → is_over (if t then recovery.Fast w.remote_last_seq w.local_seq_no w.remote_last_seq false false false else gone_on (spared (is_undone b w) (again b w)) w.local_seq_no) ≡ true
    by true e = absurd cc
    by false e = over_gone (is_undone b w) (again b w) w.local_seq_no (over_again (is_news b w) (is_lost_again b w) b.recovery w.local_seq_no w.remote_last_seq over)

    carries : (c : Bool) → is_over (if c then (if begins b w then recovery.Fast w.remote_last_seq w.local_seq_no w.remote_last_seq false false false else gone_on (spared (is_undone b w) (again b w)) w.local_seq_no) else recovery.Open) ≡ true
    carries true = by (begins b w) begun
    carries false = refl

-- ---- no loss is forgotten

module _ (b : Before) (w : View) (now : Instant) (runs : IsRunning w.timer) (may : may_resend w ≡ true) (over : is_over b.recovery ≡ true) (told : tells_loss b w ≡ true) where
  abbrev d : Duration
  d = late_wait (reordering_after b w) w.rtte

  heard : (r c : Bool) → IsRunning (if r then timer.FastRetransmit else (if c then gone_on_from b.timer now w.rtte else tail_waits (waits_tail b w) (left_running b w now) now w.rtte (is_alone w)))
  heard true c = tt
  heard false true = goes_running b.timer now w.rtte
  heard false false = tail_running (waits_tail b w) (left_running b w now) now w.rtte (is_alone w) (last_running b.timer w.idle_at _ (kept_running (is_later_partial b w) b.timer _ (still_running w.timer (flight w) (length w.tx_buffer.bytes) w.keep_alive w.rtte now runs)))

  -- it is not waited for
  begins_now : is_waited b w ≡ false → begins b w ≡ true
  begins_now e = rw (may, told, over, e) refl

  at_once : begins b w ≡ true → IsOverBy (waited_for b w now) (quarters_from now (reordering_after b w) w.rtte)
  at_once e = subst (λ r. IsOverBy (late_set (waits_late b w) (if r then timer.FastRetransmit else (if is_called b w then gone_on_from b.timer now w.rtte else tail_waits (waits_tail b w) (left_running b w now) now w.rtte (is_alone w))) now d) (quarters_from now (reordering_after b w) w.rtte)) (sym tells) (fast_over (waits_late b w) now _ d)
    where
      tells : tells_controller b w ≡ true
      tells = rw e refl

  -- it is
  not_now : is_waited b w ≡ true → begins b w ≡ false
  not_now e = rw (may, told, over, e) refl

  waited : is_waited b w ≡ true → IsOverBy (waited_for b w now) (quarters_from now (reordering_after b w) w.rtte)
  waited e = set_over (waits_late b w) (heard_for b w now) now (reordering_after b w) w.rtte late (heard (tells_controller b w) (is_called b w))
    where
      late : waits_late b w ≡ true
      late = and_from (is_waited b w) _ e (and_from (may_resend w) _ may (over_after b w over (not_now e)))

  spoken : IsOverBy (waited_for b w now) (quarters_from now (reordering_after b w) w.rtte)
  spoken = by (is_waited b w) refl
    where
      by : (x : Bool) → is_waited b w ≡ x → IsOverBy (waited_for b w now) (quarters_from now (reordering_after b w) w.rtte)
      by true e = waited e
      by false e = at_once (begins_now e)

timed : (st : State) (t u : Timer) (at : Instant) → carries_data st ≡ true → IsOverBy t at → IsOverBy (if has_timer st then t else u) at
timed state.Established t u at c h = h
timed state.CloseWait t u at c h = h
timed state.FinWait1 t u at c h = h
timed state.Closing t u at c h = h
timed state.LastAck t u at c h = h
timed _ t u at c h = absurd cc

pub no_loss_is_forgotten : NoLossIsForgotten
unfolding recovered
no_loss_is_forgotten v w s now runs may over told =
    let b : Before = before_of v s in
    let x : View = echo_known b w now in
    timed w.state (waited_for b x now) x.timer (quarters_from now (reordering_after b x) x.rtte) (and_parts (carries_data w.state) _ may).0 (spoken b x now runs may over told)

-- ---- the hole goes out

record StillOf (v x : View) : Type 0 where
  timer : x.timer ≡ v.timer
  timeout : timeout_of x ≡ timeout_of v
  state : x.state ≡ v.state
  tx : x.tx_buffer ≡ v.tx_buffer
  una : x.local_seq_no ≡ v.local_seq_no
  nxt : x.remote_last_seq ≡ v.remote_last_seq
  tuple : x.tuple ≡ v.tuple
  same_rules : x.rules ≡ v.rules
  late : is_late x ≡ is_late v

readied_still : (v : View) (now : Instant) → StillOf v (readied v now)
unfolding readied last_ts_set
readied_still v now = go v.remote_last_ts
  where
    go : (o : Option Instant) → StillOf v (told_ready (last_ts_set_at o v now) now)
    go None = record { timer = refl; timeout = refl; state = refl; tx = refl; una = refl; nxt = refl; tuple = refl; same_rules = refl; late = refl }
    go (Some at) = record { timer = refl; timeout = refl; state = refl; tx = refl; una = refl; nxt = refl; tuple = refl; same_rules = refl; late = refl }

not_so : (b : Bool) → not b ≡ true → b ≡ false
not_so true e = absurd cc
not_so false e = refl

carries_runs : (st : State) (b : Bool) → carries_data st ≡ true → is_paused st b ≡ false
carries_runs state.SynReceived b c = absurd cc
carries_runs _ b c = refl

module _ (v : View) (t : Tuple) (f : Facts) (h : IsLateOver v t f) where
  abbrev now : Instant
  now = moment_of f

  abbrev x : View
  x = readied v now

  abbrev u : View
  u = probed_by true x now

  still : StillOf v x
  still = readied_still v now

  is_so : is_late x ≡ true
  is_so = still.late ∙ h.waits

  speaks : may_speak x ≡ true
  unfolding may_speak
  speaks = rw is_so refl

  probes : probes_tail x now ≡ true
  unfolding may_speak
  probes = rw (still.same_rules ∙ h.rfc, speaks, still.timer ∙ h.timer, h.over) refl

  begins_is : after_timers x now ≡ u
  unfolding after_timers tail_probed
  begins_is = rw (alive, probes, is_so) refl
    where
      alive : is_reached (timeout_poll (timeout_of x) x.remote_last_ts) now ≡ false
      alive = ap (λ d. is_reached (timeout_poll d x.remote_last_ts) now) still.timeout ∙ h.alive

  may : may_resend v ≡ true
  may = (and_parts (may_resend v) (is_over v.recovery) (and_parts (is_told v.reordering v.local_rx_dup_acks v.sacked v.remote_mss) _ h.waits).1).0

  some : (length v.tx_buffer.bytes == 0) ≡ false
  some = not_so (length v.tx_buffer.bytes == 0) (and_parts (carries_data v.state) _ may).1

  due : data_due u t f ≡ true
  unfolding data_due probed_by
  due = rw (ap (λ (y : Queue). length y.bytes == 0) still.tx ∙ some) refl

  is_due_so : is_due u t f ≡ true
  unfolding is_due
  is_due_so = rw due refl

  goes_on : is_paused u.state u.synack_paused ≡ false
  unfolding probed_by
  goes_on = carries_runs x.state x.synack_paused (ap carries_data still.state ∙ (and_parts (carries_data v.state) _ may).0)

  not_waiting : (y : View) → is_paused y.state y.synack_paused ≡ false → unless_paused y ≡ going_on y
  not_waiting y e = rw e refl

  with_address : begun_to (Some t) v f ≡ unless_paused (after_timers x now)
  with_address = rw h.address refl

  begun_so : begun_to v.tuple v f ≡ going_on u
  begun_so = ap (λ o. begun_to o v f) h.peer ∙ with_address ∙ ap unless_paused begins_is ∙ not_waiting u goes_on

  to_peer : u.tuple ≡ Some t
  unfolding probed_by
  to_peer = still.tuple ∙ h.peer

  due_so : before_emit_to (Some t) u f ≡ going_on u
  due_so = rw is_due_so refl

  begins_so : before_emit v f ≡ going_on u
  unfolding before_emit begun
  begins_so = ap (λ (b : Begun). before_emit_to (peer_of b) b.view f) begun_so ∙ ap (λ o. before_emit_to o u f) to_peer ∙ due_so

  pub recovers_so : BeginsRecovery v t f
  unfolding probed_by
  recovers_so = record {
    peer = ap peer_of begins_so ∙ to_peer;
    due = ap (λ (b : Begun). data_due b.view t f) begins_so ∙ due;
    marked = ap (λ (b : Begun). b.view.pending_fast_retransmit) begins_so;
    una = ap (λ (b : Begun). b.view.local_seq_no) begins_so ∙ still.una;
    nxt = ap (λ (b : Begun). b.view.remote_last_seq) begins_so ∙ still.nxt;
    recovery = ap (λ (b : Begun). b.view.recovery) begins_so ∙ (λ i. recovery.Fast (still.nxt i) (still.una i) (still.nxt i) false false false);
  }

pub late_hole_goes_out : LateHoleGoesOut
late_hole_goes_out = recovers_so

-- ---- nothing was seen

none_waits : (n : ℕ) (b : Bool) → n ≡ 0 → (not (n == 0) && b) ≡ false
none_waits n b e = rw e refl

and_not : (a c d x : Bool) → x ≡ false → (a && (c && (d && not x))) ≡ (a && (c && d))
and_not a c true x e = rw e refl
and_not a c false x e = refl

pub nothing_waits : NothingSeenNothingWaits
nothing_waits b w none kept = record { begins = and_not (may_resend w) (tells_loss b w) (is_over b.recovery) (is_waited b w) quiet; waits = rw quiet refl }
  where
    same : reordering_after b w ≡ 0
    same = rw kept none

    quiet : is_waited b w ≡ false
    quiet = none_waits (reordering_after b w) _ same

pub nothing_is_late : NothingSeenNothingIsLate
nothing_is_late v none = rw (none_waits v.reordering _ none) refl

pub a_round_trip_at_most : WaitsForARoundTripAtMost
a_round_trip_at_most b w h = by (is_undone b w && not (w.undo.window == 0))
  where
    by : (c : Bool) → (if c then min w.reordering 3 + 1 else w.reordering) ≤ 4
    by true = omega arith
    by false = h
