-- What wakes a socket: its user timeout.
use Rattle.std.proofs.Common.{◌≡◌, Bool, true, false, Option, Some, None, refl, sym, subst, arith}
use Rattle.std.specs.Prelude.{if◌then◌else◌, int_le}
use Rattle.std.proofs.lemmas.Int.{ints}
use Rattle.net_base.specs.declared.time.Duration.{Duration}
use Rattle.net_base.specs.declared.time.Instant.{Instant}
use Rattle.sock_core.specs.Facts.{Facts}
use Rattle.sock_core.specs.declared.context.PollAt.{PollAt}
use Rattle.sock_core.specs.declared.context.PollAt.TheVariants as poll
use Rattle.sock_tcp.specs.Due.{held_poll}
use Rattle.sock_tcp.specs.Poll.{is_due_now, poll_moment, poll_moment_to}
use Rattle.sock_tcp.specs.Polls.{earlier, timer_poll, timeout_poll}
use Rattle.sock_tcp.specs.Rfc.UserTimeout.{timeout_of}
use Rattle.sock_tcp.specs.Timers.{after}
use Rattle.sock_tcp.specs.View.{View}
use Rattle.tcp_laws.specs.Polling.{ComesBy, WakesWithin, TimeoutWakes}
use Rattle.sock_tcp.specs.declared.tuple.Tuple.{Tuple}

-- the earlier of two comes by any moment by which one of them comes
pub first_comes : (p q : PollAt) (at : Instant) → ComesBy p at → ComesBy (earlier p q) at
first_comes poll.Now q at h = tt
first_comes poll.Ingress q at h = absurd h
first_comes (poll.Time t) poll.Now at h = tt
first_comes (poll.Time t) poll.Ingress at h = h
first_comes (poll.Time t) (poll.Time u) at h = go (int_le t.micros u.micros) refl
  where
    go : (b : Bool) → int_le t.micros u.micros ≡ b → ComesBy (poll.Time (if b then t else u)) at
    go true e = h
    go false e = grind (arith, ints)

pub second_comes : (p q : PollAt) (at : Instant) → ComesBy q at → ComesBy (earlier p q) at
second_comes poll.Now q at h = tt
second_comes poll.Ingress q at h = h
second_comes (poll.Time t) poll.Now at h = tt
second_comes (poll.Time t) poll.Ingress at h = absurd h
second_comes (poll.Time t) (poll.Time u) at h = go (int_le t.micros u.micros) refl
  where
    go : (b : Bool) → int_le t.micros u.micros ≡ b → ComesBy (poll.Time (if b then t else u)) at
    go true e = grind (arith, ints)
    go false e = h

itself : (at : Instant) → ComesBy (poll.Time at) at
itself at = grind (arith, ints)

module _ (v : View) (t : Tuple) (d : Duration) (f : Facts) where
  known : (last : Instant) → v.remote_last_ts ≡ Some last → timeout_of v ≡ Some d → ComesBy (poll_moment_to (Some t) v f) (after last d)
  known last e i = go (is_due_now v t f)
    where
      by_timeout : ComesBy (timeout_poll (timeout_of v) v.remote_last_ts) (after last d)
      by_timeout = rw (e, i) (itself (after last d))

      go : (b : Bool) → ComesBy (if b then poll.Now else earlier (timer_poll v.timer) (earlier (timeout_poll (timeout_of v) v.remote_last_ts) (held_poll v))) (after last d)
      go true = tt
      go false = second_comes (timer_poll v.timer) (earlier (timeout_poll (timeout_of v) v.remote_last_ts) (held_poll v)) (after last d) (first_comes (timeout_poll (timeout_of v) v.remote_last_ts) (held_poll v) (after last d) by_timeout)

  by_last : (o : Option Instant) → v.remote_last_ts ≡ o → timeout_of v ≡ Some d → WakesWithin o d (poll_moment_to (Some t) v f)
  by_last None e i = rw e refl
  by_last (Some last) e i = known last e i

pub timeout_wakes : TimeoutWakes
unfolding poll_moment
timeout_wakes v t d f p i = subst (λ o. WakesWithin v.remote_last_ts d (poll_moment_to o v f)) (sym p) (by_last v t d f v.remote_last_ts refl i)
