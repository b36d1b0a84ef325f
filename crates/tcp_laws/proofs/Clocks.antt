-- Over any list of calls whose clock does not go back a wake-up has a bound.
use Rattle.std.proofs.Common.{◌≡◌, ◌≤◌, ◌⊎◌, inl, inr, Bool, true, false, not, ◌&&◌, refl, sym, ap, subst, ◌∙◌, Option, Some, None, is_none, arith}
use Rattle.std.specs.Prelude.{◌==◌, ◌||◌, if◌then◌else◌, int_le, nat_le, pos, ◌≤ℤ◌}
use Rattle.std.proofs.lemmas.Bool.{and_parts, le-leb, or_parts}
use Rattle.std.proofs.lemmas.Int.{ints}
use Rattle.std.proofs.lemmas.Option.{none-some}
use Rattle.net_base.specs.declared.time.Duration.{Duration}
use Rattle.net_base.specs.declared.time.Instant.{Instant}
use Rattle.sock_core.specs.Facts.{Facts}
use Rattle.sock_core.specs.declared.context.PollAt.{PollAt}
use Rattle.sock_core.specs.declared.context.PollAt.TheVariants as poll
use Rattle.sock_tcp.specs.Due.{ack_due, ack_poll, data_due, flight, held_poll, is_closed, sendable, window_doubled}
use Rattle.sock_tcp.specs.Poll.{is_due_now, poll_moment, poll_moment_to}
use Rattle.sock_tcp.specs.Polls.{delay_poll, earlier, timer_poll, timeout_poll}
use Rattle.sock_tcp.specs.Rfc.UserTimeout.{timeout_of}
use Rattle.sock_tcp.specs.Rfc.SmallSegments.{held_by, small_poll}
use Rattle.sock_tcp.specs.Timers.{after, is_over}
use Rattle.sock_tcp.specs.View.{View, fresh}
use Rattle.sock_tcp.specs.declared.rules.Rules.{Rules}
use Rattle.sock_tcp.specs.declared.rules.Rules.TheVariants as rules
use Rattle.sock_tcp.specs.declared.timer.AckDelayTimer.{AckDelayTimer}
use Rattle.sock_tcp.specs.declared.timer.AckDelayTimer.TheVariants as ack_delay
use Rattle.sock_tcp.specs.declared.timer.Timer.{Timer}
use Rattle.sock_tcp.specs.declared.timer.Timer.TheVariants as timer
use Rattle.sock_tcp.specs.declared.tuple.Tuple.{Tuple}
use Rattle.tcp_laws.specs.Clocks.{IsAtMost, IsNext, IsReachedBy, KeepAliveIsBounded, NoCall, OneMore, TimedRun, WakeUpIsBounded, latest, moment_in}
use Rattle.tcp_laws.specs.Polling.{ComesBy, IsReached}
use Rattle.tcp_laws.specs.SocketRun.{Counts, Run}
use Rattle.tcp_laws.specs.SocketRun.{Ends, Then}
use Rattle.tcp_laws.proofs.Guards.{first_comes, second_comes}
use Rattle.tcp_laws.proofs.OrderedCalls.{reached_ordered}
use Rattle.tcp_laws.proofs.Sleeping.{no_moment}
use Rattle.tcp_laws.proofs.Moments.{IsTimed, is_delay_by, is_moment_by, is_timer_by}
use Rattle.tcp_laws.proofs.Kept.{step_kept}
use Rattle.tcp_laws.proofs.Timed.{kept_timed}

-- ---- any list of calls

module _ (most : Duration) (minute : 60000000 ≤ most.micros) where
  still_zero : (told : Option Instant) (last : Instant) → IsNext told last → pos 0 ≤ℤ last.micros → pos 0 ≤ℤ (latest told last).micros
  still_zero None last n z = z
  still_zero (Some now) last n z = let h : last.micros ≤ℤ now.micros = n now refl in grind (arith, ints)

  run_timed : (v w : View) (k j : Counts) (last end : Instant) → TimedRun most v k last w j end → pos 0 ≤ℤ last.micros → IsTimed last most v → IsTimed end most w
  run_timed v w k j last end (NoCall _ _ _) z t = t
  run_timed v w k j last end (OneMore _ u _ _ i _ _ _ s n m r) z t = run_timed u w i j (latest (moment_in s) last) end r (still_zero (moment_in s) last n z) (step_kept (λ at. IsTimed at most) (λ at. pos 0 ≤ℤ at.micros) (λ before now. before.micros ≤ℤ now.micros) (λ d. IsAtMost d most) (kept_timed most minute) v u k i last s z n m t)

  untimed : (v w : View) (k j : Counts) (last end : Instant) → TimedRun most v k last w j end → Run v k w j
  untimed v w k j last end (NoCall _ _ _) = Ends v k
  untimed v w k j last end (OneMore _ u _ _ i _ _ _ s n m r) = Then v u w k i j s (untimed u w i j (latest (moment_in s) last) end r)

reached_timed : (v : View) (last : Instant) (most : Duration) → IsReachedBy v last most → IsTimed last most v
unfolding fresh
reached_timed v last most r = run_timed most r.minute _ v _ r.counts r.first last r.run r.from_zero (record { timer = refl; waits = refl; timeout = omega arith; keep_short = refl; delay_short = le-leb 10000 most.micros (let m = r.minute in omega (arith, m)); idle = refl })

reached_so : (v : View) (last : Instant) (most : Duration) → IsReachedBy v last most → IsReached v
reached_so v last most r = record { rx = r.rx; tx = r.tx; counts = r.counts; rx_size = r.rx_size; tx_size = r.tx_size; run = untimed most r.minute _ v _ r.counts r.first last r.run }

-- ---- the laws

comes : (at by : Instant) → is_over at by ≡ true → at.micros ≤ℤ by.micros
comes at by e = grind (arith, ints)

timer_comes : (last : Instant) (most : Duration) (t : Timer) → is_timer_by last most t ≡ true → (t ≡ timer.Idle None) ⊎ ComesBy (timer_poll t) (after last most)
timer_comes last most (timer.Idle None) e = inl refl
timer_comes last most (timer.Idle (Some at)) e = inr (comes at (after last most) e)
timer_comes last most (timer.Retransmit at) e = inr (comes at (after last most) e)
timer_comes last most timer.FastRetransmit e = inr tt
timer_comes last most (timer.ZeroWindowProbe at delay) e = inr (comes at (after last most) (and_parts (is_over at (after last most)) (nat_le delay.micros 60000000) e).0)
timer_comes last most (timer.Close at) e = inr (comes at (after last most) e)

-- a moment comes by that one, if there is any
abbrev IfAny : PollAt → Instant → Type 0
IfAny poll.Ingress at = Unit {0}
IfAny p at = ComesBy p at

any_comes : (p : PollAt) (at : Instant) → (p ≡ poll.Ingress → ⊥) → IfAny p at → ComesBy p at
any_comes poll.Ingress at n h = absurd (n refl)
any_comes poll.Now at n h = tt
any_comes (poll.Time t) at n h = h

earlier_if_any : (p q : PollAt) (at : Instant) → IfAny p at → IfAny q at → IfAny (earlier p q) at
earlier_if_any poll.Now q at h k = tt
earlier_if_any poll.Ingress q at h k = k
earlier_if_any (poll.Time t) poll.Now at h k = tt
earlier_if_any (poll.Time t) poll.Ingress at h k = h
earlier_if_any (poll.Time t) (poll.Time u) at h k = go (int_le t.micros u.micros)
  where
    go : (b : Bool) → (if b then t else u).micros ≤ℤ at.micros
    go true = h
    go false = k

small_if_any : (last : Instant) (most : Duration) (b : Bool) (o : Option Instant) → is_moment_by last most o ≡ true → IfAny (small_poll b o) (after last most)
small_if_any last most true None e = tt
small_if_any last most true (Some at) e = comes at (after last most) e
small_if_any last most false o e = tt

module _ (v : View) (last : Instant) (most : Duration) (t : Tuple) (f : Facts) (r : IsReachedBy v last most) where
  abbrev by : Instant
  by = after last most

  timed : IsTimed last most v
  timed = reached_timed v last most r

  abbrev rest : PollAt
  rest = earlier (timeout_poll (timeout_of v) v.remote_last_ts) (held_poll v)

  by_timer : ComesBy (timer_poll v.timer) by → ComesBy (earlier (timer_poll v.timer) rest) by
  by_timer h = first_comes (timer_poll v.timer) rest by h

  by_held : (held_poll v ≡ poll.Ingress → ⊥) → ComesBy (earlier (timer_poll v.timer) rest) by
  by_held n = second_comes (timer_poll v.timer) rest by (second_comes (timeout_poll (timeout_of v) v.remote_last_ts) (held_poll v) by (any_comes (held_poll v) by n (held v.rules)))
    where
      small : PollAt
      small = small_poll ((flight v == 0) && not (sendable v == 0)) v.idle_at

      ack : (b : Bool) → IfAny (if b then delay_poll v.ack_delay_timer else poll.Ingress) by
      ack true = delay_if_any v.ack_delay_timer timed.waits
        where
          delay_if_any : (a : AckDelayTimer) → is_delay_by last most a ≡ true → IfAny (delay_poll a) by
          delay_if_any ack_delay.Idle e = tt
          delay_if_any ack_delay.Immediate e = tt
          delay_if_any (ack_delay.Waiting at) e = comes at by e
      ack false = tt

      held : (r : Rules) → IfAny (held_by r (ack_poll v) small) by
      held rules.Smoltcp = ack (ack_due v)
      held rules.Rfc = earlier_if_any (ack_poll v) small by (ack (ack_due v)) (small_if_any last most ((flight v == 0) && not (sendable v == 0)) v.idle_at timed.idle)

  bounded : ((is_due_now v t f ≡ false) → v.timer ≡ timer.Idle None → held_poll v ≡ poll.Ingress → ⊥) → ComesBy (poll_moment_to (Some t) v f) by
  bounded awake = go (is_due_now v t f) refl
    where
      go : (b : Bool) → is_due_now v t f ≡ b → ComesBy (if b then poll.Now else earlier (timer_poll v.timer) rest) by
      go true e = tt
      go false e = either (timer_comes last most v.timer timed.timer)
        where
          either : (v.timer ≡ timer.Idle None) ⊎ ComesBy (timer_poll v.timer) by → ComesBy (earlier (timer_poll v.timer) rest) by
          either (inl i) = by_held (awake e i)
          either (inr h) = by_timer h

  -- with a keep-alive interval the timer has a moment
  kept_awake : (d : Duration) → v.tuple ≡ Some t → v.keep_alive ≡ Some d → is_due_now v t f ≡ false → v.timer ≡ timer.Idle None → held_poll v ≡ poll.Ingress → ⊥
  kept_awake d p k e i q =
      let a = or_parts (is_none v.remote_last_ts || is_closed v.state || data_due v t f) (window_doubled v) e in
      let b = or_parts (is_none v.remote_last_ts || is_closed v.state) (data_due v t f) a.0 in
      let c = or_parts (is_none v.remote_last_ts) (is_closed v.state) b.0 in
      none-some d (sym (no_moment v t f (reached_ordered v (reached_so v last most r)) (record { timer = i; no_data = b.1; not_closed = c.1 }) v.state refl p) ∙ k)

pub wake_up_is_bounded : WakeUpIsBounded
unfolding poll_moment
wake_up_is_bounded v last most t f r p awake = subst (λ o. ComesBy (poll_moment_to o v f) (after last most)) (sym p) (bounded v last most t f r (λ e i. awake (ap timer_poll i)))

pub keep_alive_is_bounded : KeepAliveIsBounded
unfolding poll_moment
keep_alive_is_bounded v last most d t f r p k = subst (λ o. ComesBy (poll_moment_to o v f) (after last most)) (sym p) (bounded v last most t f r (kept_awake v last most t f r d p k))
