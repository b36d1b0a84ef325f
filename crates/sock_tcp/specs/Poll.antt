-- `poll_at`.
use Rattle.std.specs.Prelude.{ℕ, Option, Some, None, is_none, Bool, ◌||◌, if◌then◌else◌}
use Rattle.sock_core.specs.Facts.{Facts}
use Rattle.sock_core.specs.declared.context.PollAt.{PollAt}
use Rattle.sock_core.specs.declared.context.PollAt.TheVariants as poll
use Rattle.sock_tcp.specs.Due.{data_due, data_due_by, held_poll, window_doubled, is_closed}
use Rattle.sock_tcp.specs.Polls.{earlier, timer_poll, timeout_poll}
use Rattle.sock_tcp.specs.Rfc.UserTimeout.{timeout_of}
use Rattle.sock_tcp.specs.View.{View}
use Rattle.sock_tcp.specs.declared.tuple.Tuple.{Tuple}

-- ---- `poll_at`

-- a dispatch has something to do at once
abbrev pub is_due_now : View → Tuple → Facts → Bool
is_due_now v t f = is_none v.remote_last_ts || is_closed v.state || data_due v t f || window_doubled v

-- the same, and the poll moment, with segments of up to so many bytes
abbrev pub is_due_by : View → ℕ → Bool
is_due_by v mss = is_none v.remote_last_ts || is_closed v.state || data_due_by v mss || window_doubled v

abbrev pub poll_moment_by : View → ℕ → PollAt
poll_moment_by v mss =
    if is_due_by v mss then poll.Now
    else earlier (timer_poll v.timer) (earlier (timeout_poll (timeout_of v) v.remote_last_ts) (held_poll v))

-- else it waits for the timer, the user timeout, and an acknowledgement or bytes that are held back
abbrev pub poll_moment_to : Option Tuple → View → Facts → PollAt
poll_moment_to None v f = poll.Ingress
poll_moment_to (Some t) v f =
    if is_due_now v t f then poll.Now
    else earlier (timer_poll v.timer) (earlier (timeout_poll (timeout_of v) v.remote_last_ts) (held_poll v))

unfoldable pub poll_moment : View → Facts → PollAt
poll_moment v f = poll_moment_to v.tuple v f
