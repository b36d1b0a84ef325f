-- Poll moments: when a socket wants its next dispatch.
use Rattle.std.specs.Prelude.{int_le, ◌<ℤ◌, Option, Some, None, Bool, true, false, if◌then◌else◌}
use Rattle.net_base.specs.declared.time.Duration.{Duration}
use Rattle.net_base.specs.declared.time.Instant.{Instant}
use Rattle.sock_core.specs.declared.context.PollAt.{PollAt}
use Rattle.sock_core.specs.declared.context.PollAt.TheVariants as poll
use Rattle.sock_tcp.specs.Timers.{after, is_over}
use Rattle.sock_tcp.specs.declared.timer.AckDelayTimer.{AckDelayTimer}
use Rattle.sock_tcp.specs.declared.timer.AckDelayTimer.TheVariants as ack_delay
use Rattle.sock_tcp.specs.declared.timer.Timer.{Timer}
use Rattle.sock_tcp.specs.declared.timer.Timer.TheVariants as timer

-- the poll moment is now or was before
abbrev pub is_reached : PollAt → Instant → Bool
is_reached poll.Now now = true
is_reached (poll.Time t) now = is_over t now
is_reached poll.Ingress now = false

-- the poll moment is after now, or waits for a packet
abbrev pub IsLater : PollAt → Instant → Type 0
IsLater poll.Now now = ⊥
IsLater (poll.Time t) now = now.micros <ℤ t.micros
IsLater poll.Ingress now = Unit {0}

abbrev pub earlier_moment : Instant → Instant → Instant
earlier_moment t u = if int_le t.micros u.micros then t else u

-- the earlier of two
abbrev pub earlier : PollAt → PollAt → PollAt
earlier poll.Now q = poll.Now
earlier poll.Ingress q = q
earlier (poll.Time t) poll.Now = poll.Now
earlier (poll.Time t) poll.Ingress = poll.Time t
earlier (poll.Time t) (poll.Time u) = poll.Time (earlier_moment t u)

-- what the timer waits for
abbrev pub timer_poll : Timer → PollAt
timer_poll (timer.Idle None) = poll.Ingress
timer_poll (timer.Idle (Some t)) = poll.Time t
timer_poll (timer.Retransmit t) = poll.Time t
timer_poll timer.FastRetransmit = poll.Now
timer_poll (timer.ZeroWindowProbe t delay) = poll.Time t
timer_poll (timer.Close t) = poll.Time t

-- the user timeout, where it runs, from the moment when the last segment came
abbrev pub timeout_poll : Option Duration → Option Instant → PollAt
timeout_poll (Some timeout) (Some last) = poll.Time (after last timeout)
timeout_poll timeout last = poll.Ingress

-- how long an acknowledgement that is due may wait
abbrev pub delay_poll : AckDelayTimer → PollAt
delay_poll ack_delay.Idle = poll.Now
delay_poll (ack_delay.Waiting t) = poll.Time t
delay_poll ack_delay.Immediate = poll.Now
