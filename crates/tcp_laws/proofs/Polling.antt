-- Where `poll_at` answers later than now, a dispatch at now emits nothing.
use Rattle.std.proofs.Common.{◌≡◌, Bool, true, false, not, ◌&&◌, Option, Some, None, is_none, refl, sym, ap, subst, ◌∙◌, arith}
use Rattle.std.proofs.lemmas.Option.{same_Some}
use Rattle.std.specs.Prelude.{◌||◌, if◌then◌else◌, int_le, ◌<ℤ◌}
use Rattle.std.proofs.lemmas.Bool.{or_parts}
use Rattle.std.proofs.lemmas.Int.{ints}
use Rattle.net_base.specs.declared.time.Instant.{Instant}
use Rattle.sock_core.specs.Facts.{Facts}
use Rattle.sock_core.specs.declared.context.PollAt.{PollAt}
use Rattle.sock_core.specs.declared.context.PollAt.TheVariants as poll
use Rattle.sock_core.specs.Congestion.{pre_transmitted, reno_pre_transmit}
use Rattle.sock_core.specs.declared.congestion.AnyController.{AnyController}
use Rattle.sock_core.specs.declared.congestion.AnyController.TheVariants as controller
use Rattle.sock_tcp.specs.Begin.{last_ts_set, last_ts_set_at, told_ready, readied, after_timer, after_timers, is_paused, begun, begun_to, unless_paused, ended, before_emit, before_emit_to, peer_of}
use Rattle.sock_tcp.specs.Due.{data_due, held_poll, window_doubled, is_closed, is_due}
use Rattle.sock_tcp.specs.Opening.{renewed}
use Rattle.sock_tcp.specs.Poll.{is_due_now, poll_moment_to, poll_moment}
use Rattle.tcp_laws.specs.Polling.{PollHidesNothing}
use Rattle.sock_tcp.specs.Polls.{is_reached, earlier, timer_poll, timeout_poll, IsLater}
use Rattle.sock_tcp.specs.Rfc.UserTimeout.{timeout_of}
use Rattle.sock_tcp.specs.Rfc.TailLoss.{is_retransmission_over, may_probe_by, may_speak, probes_tail}
use Rattle.sock_tcp.specs.Timers.{is_over, is_keep_alive_over, is_probe_over}
use Rattle.sock_tcp.specs.View.{View, moment_of}
use Rattle.sock_tcp.specs.declared.timer.Timer.{Timer}
use Rattle.sock_tcp.specs.declared.timer.Timer.TheVariants as timer
use Rattle.sock_tcp.specs.declared.tuple.Tuple.{Tuple}

not_over : (t now : Instant) → now.micros <ℤ t.micros → is_over t now ≡ false
not_over t now h = grind (arith, ints)

not_reached : (p : PollAt) (now : Instant) → IsLater p now → is_reached p now ≡ false
not_reached poll.Now now h = absurd h
not_reached (poll.Time t) now h = not_over t now h
not_reached poll.Ingress now h = refl

by_earlier : (b : Bool) (t u now : Instant) → int_le t.micros u.micros ≡ b → now.micros <ℤ (if b then t else u).micros → (now.micros <ℤ t.micros) × (now.micros <ℤ u.micros)
by_earlier true t u now e h = (h, grind (arith, ints))
by_earlier false t u now e h = (grind (arith, ints), h)

both_later : (p q : PollAt) (now : Instant) → IsLater (earlier p q) now → IsLater p now × IsLater q now
both_later poll.Now q now h = absurd h
both_later poll.Ingress q now h = (tt, h)
both_later (poll.Time t) poll.Now now h = absurd h
both_later (poll.Time t) poll.Ingress now h = (h, tt)
both_later (poll.Time t) (poll.Time u) now h = by_earlier (int_le t.micros u.micros) t u now refl h

-- ---- the timer

no_keep_alive : (m : Timer) (now : Instant) → IsLater (timer_poll m) now → is_keep_alive_over m now ≡ false
no_keep_alive (timer.Idle (Some t)) now h = not_over t now h
no_keep_alive (timer.Idle None) now h = refl
no_keep_alive (timer.Retransmit t) now h = refl
no_keep_alive timer.FastRetransmit now h = refl
no_keep_alive (timer.ZeroWindowProbe t delay) now h = refl
no_keep_alive (timer.Close t) now h = refl

no_probe : (m : Timer) (now : Instant) → IsLater (timer_poll m) now → is_probe_over m now ≡ false
no_probe (timer.ZeroWindowProbe t delay) now h = not_over t now h
no_probe (timer.Idle o) now h = refl
no_probe (timer.Retransmit t) now h = refl
no_probe timer.FastRetransmit now h = refl
no_probe (timer.Close t) now h = refl

no_effect : (m : Timer) (v : View) (now : Instant) → IsLater (timer_poll m) now → after_timer m v now ≡ v
no_effect (timer.Retransmit t) v now h = rw (not_over t now h) refl
no_effect timer.FastRetransmit v now h = absurd h
no_effect (timer.Idle o) v now h = refl
no_effect (timer.ZeroWindowProbe t delay) v now h = rw (not_over t now h) refl
no_effect (timer.Close t) v now h = refl

no_over : (m : Timer) (now : Instant) → IsLater (timer_poll m) now → is_retransmission_over m now ≡ false
no_over (timer.Retransmit t) now h = not_over t now h
no_over timer.FastRetransmit now h = absurd h
no_over (timer.Idle o) now h = refl
no_over (timer.ZeroWindowProbe t delay) now h = refl
no_over (timer.Close t) now h = refl

no_tail : (v : View) (now : Instant) → IsLater (timer_poll v.timer) now → probes_tail v now ≡ false
no_tail v now h = by (may_probe_by v.rules (may_speak v))
  where
    by : (b : Bool) → (b && is_retransmission_over v.timer now) ≡ false
    by true = no_over v.timer now h
    by false = refl

-- ---- the beginning changes nothing

same_last_ts_set : (o : Option Instant) (v : View) (now : Instant) → is_none o ≡ false → last_ts_set_at o v now ≡ v
same_last_ts_set None v now h = absurd cc
same_last_ts_set (Some last) v now h = refl

same_pre_transmitted : (c : AnyController) (now : Instant) → pre_transmitted c now ≡ c
unfolding pre_transmitted reno_pre_transmit
same_pre_transmitted (controller.None n) now = refl
same_pre_transmitted (controller.Reno r) now = refl
same_pre_transmitted (controller.Cubic c) now = refl

same_readied : (v : View) (now : Instant) → is_none v.remote_last_ts ≡ false → readied v now ≡ v
unfolding readied last_ts_set
same_readied v now known =
    ap (λ (w : View). told_ready w now) (same_last_ts_set v.remote_last_ts v now known)
    ∙ ap (λ (c : AnyController). record v { congestion_controller = c }) (same_pre_transmitted v.congestion_controller now)

same_timers : (v : View) (now : Instant) → IsLater (timer_poll v.timer) now → IsLater (timeout_poll (timeout_of v) v.remote_last_ts) now → after_timers v now ≡ v
unfolding after_timers
same_timers v now m u = rw (not_reached (timeout_poll (timeout_of v) v.remote_last_ts) now u) (rw (no_tail v now m) (no_effect v.timer v now m))

same_begun : (v : View) (now : Instant) → is_none v.remote_last_ts ≡ false → IsLater (timer_poll v.timer) now → IsLater (timeout_poll (timeout_of v) v.remote_last_ts) now → after_timers (readied v now) now ≡ v
same_begun v now known m u = ap (λ (w : View). after_timers w now) (same_readied v now known) ∙ same_timers v now m u

-- ---- the whole

past_guard : (b : Bool) (p : PollAt) (now : Instant) → IsLater (if b then poll.Now else p) now → (b ≡ false) × IsLater p now
past_guard true p now h = absurd h
past_guard false p now h = (refl, h)

by_pause : (b : Bool) (o : Option Tuple) (v : View) (f : Facts) → ((t : Tuple) → o ≡ Some t → is_due v t f ≡ false) → peer_of (before_emit_to (if not b then o else None) v f) ≡ None
by_pause true o v f d = refl
by_pause false None v f d = refl
by_pause false (Some t) v f d = rw (d t refl) refl

by_address : (b : Bool) (v : View) (f : Facts) → ((t : Tuple) → v.tuple ≡ Some t → is_due v t f ≡ false) → peer_of (before_emit_to (peer_of (if b then unless_paused v else ended (renewed v))) (if b then unless_paused v else ended (renewed v)).view f) ≡ None
by_address true v f d = by_pause (is_paused v.state v.synack_paused) v.tuple v f d
by_address false v f d = refl

not_due : (v : View) (t : Tuple) (f : Facts) → data_due v t f ≡ false → IsLater (held_poll v) (moment_of f) → window_doubled v ≡ false → is_closed v.state ≡ false → IsLater (timer_poll v.timer) (moment_of f) → is_due v t f ≡ false
unfolding is_due
not_due v t f d a w c m = rw (d, not_reached (held_poll v) (moment_of f) a, w, c, no_keep_alive v.timer (moment_of f) m, no_probe v.timer (moment_of f) m) refl

nothing : (o : Option Tuple) (v : View) (f : Facts) → v.tuple ≡ o → IsLater (poll_moment_to o v f) (moment_of f) → peer_of (before_emit_to (peer_of (begun_to o v f)) (begun_to o v f).view f) ≡ None
nothing None v f p h = refl
nothing (Some t) v f p h =
    let g = past_guard (is_due_now v t f) (earlier (timer_poll v.timer) (earlier (timeout_poll (timeout_of v) v.remote_last_ts) (held_poll v))) (moment_of f) h in
    let e = both_later (timer_poll v.timer) (earlier (timeout_poll (timeout_of v) v.remote_last_ts) (held_poll v)) (moment_of f) g.1 in
    let l = both_later (timeout_poll (timeout_of v) v.remote_last_ts) (held_poll v) (moment_of f) e.1 in
    let a = or_parts (is_none v.remote_last_ts || is_closed v.state || data_due v t f) (window_doubled v) g.0 in
    let b = or_parts (is_none v.remote_last_ts || is_closed v.state) (data_due v t f) a.0 in
    let c = or_parts (is_none v.remote_last_ts) (is_closed v.state) b.0 in
    rw (same_begun v (moment_of f) c.0 e.0 l.0) (by_address (f.has_address t.local.addr) v f (λ x k. subst (λ x. is_due v x f ≡ false) (same_Some t x (sym p ∙ k)) (not_due v t f b.1 l.1 a.1 c.1 e.0)))

pub poll_hides_nothing : PollHidesNothing
unfolding poll_moment begun before_emit
poll_hides_nothing v f h = nothing v.tuple v f refl h
