-- A socket with work to do sleeps, or its wake-up has a bound.
use Rattle.std.proofs.Common.{◌≡◌, ◌⊎◌, inl, inr, Bool, true, false, refl, sym, ap, subst, ◌∙◌, Some, None}
use Rattle.std.specs.Prelude.{if◌then◌else◌}
use Rattle.net_base.specs.declared.time.Duration.{Duration}
use Rattle.net_base.specs.declared.time.Instant.{Instant}
use Rattle.sock_core.specs.Facts.{Facts}
use Rattle.sock_core.specs.declared.context.PollAt.{PollAt}
use Rattle.sock_core.specs.declared.context.PollAt.TheVariants as poll
use Rattle.sock_tcp.specs.Due.{held_poll}
use Rattle.sock_tcp.specs.Poll.{is_due_now, poll_moment, poll_moment_to}
use Rattle.sock_tcp.proofs.UserTimeout.{none_runs}
use Rattle.sock_tcp.specs.Polls.{earlier, timeout_poll, timer_poll}
use Rattle.sock_tcp.specs.Timers.{after}
use Rattle.sock_tcp.specs.View.{View}
use Rattle.sock_tcp.specs.declared.timer.Timer.{Timer}
use Rattle.sock_tcp.specs.declared.timer.Timer.TheVariants as timer
use Rattle.sock_tcp.specs.declared.tuple.Tuple.{Tuple}
use Rattle.tcp_laws.specs.Clocks.{IsReachedBy, NoCall, OneMore, TimedRun, latest, moment_in}
use Rattle.tcp_laws.specs.Polling.{ComesBy, IsReached, Sleeps}
use Rattle.tcp_laws.specs.SocketRun.{Counts, Ends, Run, Then}
use Rattle.tcp_laws.proofs.Clocks.{wake_up_is_bounded}
use Rattle.tcp_laws.proofs.Sleeping.{sleeps_only_so}
use Rattle.progress_laws.specs.Wakes.{WorkWakesOrSleeps}

-- without the clock it is a list of calls
untimed : (most : Duration) (v w : View) (k j : Counts) (last end : Instant) → TimedRun most v k last w j end → Run v k w j
untimed most v w k j last end (NoCall _ _ _) = Ends v k
untimed most v w k j last end (OneMore _ u _ _ i _ _ _ s n m r) = Then v u w k i j s (untimed most u w i j (latest (moment_in s) last) end r)

reached : (v : View) (last : Instant) (most : Duration) → IsReachedBy v last most → IsReached v
reached v last most r = record { rx = r.rx; tx = r.tx; counts = r.counts; rx_size = r.rx_size; tx_size = r.tx_size; run = untimed most _ v _ r.counts r.first last r.run }

has_moment : (tm : Timer) → (timer_poll tm ≡ poll.Ingress) ⊎ (timer_poll tm ≡ poll.Ingress → ⊥)
has_moment (timer.Idle None) = inl refl
has_moment (timer.Idle (Some at)) = inr (λ e. cc)
has_moment (timer.Retransmit at) = inr (λ e. cc)
has_moment timer.FastRetransmit = inr (λ e. cc)
has_moment (timer.ZeroWindowProbe at delay) = inr (λ e. cc)
has_moment (timer.Close at) = inr (λ e. cc)

is_held : (p : PollAt) → (p ≡ poll.Ingress) ⊎ (p ≡ poll.Ingress → ⊥)
is_held poll.Ingress = inl refl
is_held poll.Now = inr (λ e. cc)
is_held (poll.Time t) = inr (λ e. cc)

moment : (v : View) (t : Tuple) (f : Facts) (b : Bool) → v.tuple ≡ Some t → v.timeout ≡ None → is_due_now v t f ≡ b → timer_poll v.timer ≡ poll.Ingress → held_poll v ≡ poll.Ingress → poll_moment v f ≡ (if b then poll.Now else poll.Ingress)
unfolding poll_moment
moment v t f b peer none y i x = ap (λ o. poll_moment_to o v f) peer ∙ (λ j. if y j then poll.Now else earlier (i j) (earlier (timeout_poll (none_runs v none j) v.remote_last_ts) (x j)))

pub work_wakes_or_sleeps : WorkWakesOrSleeps
work_wakes_or_sleeps v last most t f r peer no_timeout work = by (has_moment v.timer) (is_held (held_poll v)) (is_due_now v t f) refl
  where
    awake : (timer_poll v.timer ≡ poll.Ingress → held_poll v ≡ poll.Ingress → ⊥) → Sleeps v ⊎ ComesBy (poll_moment v f) (after last most)
    awake h = inr (wake_up_is_bounded v last most t f r peer h)

    quiet : timer_poll v.timer ≡ poll.Ingress → held_poll v ≡ poll.Ingress → (b : Bool) → is_due_now v t f ≡ b → Sleeps v ⊎ ComesBy (poll_moment v f) (after last most)
    quiet i x true y = inr (subst (λ p. ComesBy p (after last most)) (sym (moment v t f true peer no_timeout y i x)) tt)
    quiet i x false y = inl (sleeps_only_so v f (reached v last most r) work (moment v t f false peer no_timeout y i x))

    by : (timer_poll v.timer ≡ poll.Ingress) ⊎ (timer_poll v.timer ≡ poll.Ingress → ⊥) → (held_poll v ≡ poll.Ingress) ⊎ (held_poll v ≡ poll.Ingress → ⊥) → (b : Bool) → is_due_now v t f ≡ b → Sleeps v ⊎ ComesBy (poll_moment v f) (after last most)
    by (inr h) a b y = awake (λ e. absurd (h e))
    by (inl i) (inr x) b y = awake (λ e. x)
    by (inl i) (inl x) b y = quiet i x b y
