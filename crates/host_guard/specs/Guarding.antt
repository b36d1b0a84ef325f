-- The limits that a host sets its TCP connections.
use Rattle.std.specs.Prelude.{ℕ, ◌+◌, ◌==◌, ◌&&◌, Bool, true, false, nat_le, nat_lt, int_le, ◌-ℤ◌, unsigned_abs}
use Rattle.std.specs.Prelude.{if◌then◌else◌}
use Rattle.std.specs.Prelude.{Option, Some, None}
use Rattle.net_base.specs.declared.time.Duration.{Duration}
use Rattle.net_base.specs.declared.time.Instant.{Instant}
use Rattle.sock_core.specs.declared.context.PollAt.{PollAt}
use Rattle.sock_core.specs.declared.context.PollAt.TheVariants as poll
use Rattle.sock_tcp.specs.Closing.{aborted}
use Rattle.sock_tcp.specs.Polls.{earlier}
use Rattle.sock_tcp.specs.Timers.{after}
use Rattle.sock_tcp.specs.View.{View}
use Rattle.sock_tcp.specs.declared.state.State.{State}
use Rattle.sock_tcp.specs.declared.state.State.TheVariants as state

-- the user timeout: a minute
abbrev pub timeout : Duration
timeout = record { micros = 60000000 }

-- of a handshake that a SYN began: three seconds
abbrev pub handshake : Duration
handshake = record { micros = 3000000 }

-- how long FIN-WAIT-2 may last: a minute
abbrev pub longest_fin_wait_2 : Duration
longest_fin_wait_2 = record { micros = 60000000 }

-- how far apart dispatches in FIN-WAIT-2 are: 20 milliseconds
abbrev pub pace : Duration
pace = record { micros = 20000 }

-- how many dispatches a socket may have at one moment
abbrev pub turns : ℕ
turns = 64

abbrev pub timeout_in : State → Duration
timeout_in state.Listen = handshake
timeout_in state.SynReceived = handshake
timeout_in _ = timeout

-- how far two moments are apart, in microseconds
abbrev pub apart : Instant → Instant → ℕ
apart t u = unsigned_abs (t.micros -ℤ u.micros)

-- ---- what is remembered of a socket: since when it is in FIN-WAIT-2, when it was dispatched last in it, and at which
-- moment it was dispatched last, and how often

-- the earlier of what was known and now
abbrev pub first_seen : Option Instant → Instant → Instant
first_seen None now = now
first_seen (Some t) now = if int_le t.micros now.micros then t else now

abbrev pub since_in : State → Option Instant → Instant → Option Instant
since_in state.FinWait2 since now = Some (first_seen since now)
since_in _ since now = None

abbrev pub last_in : State → Option Instant → Option Instant
last_in state.FinWait2 last = last
last_in _ last = None

-- ---- what follows

-- a minute or more in FIN-WAIT-2
abbrev pub has_lasted : Option Instant → Instant → Bool
has_lasted None now = false
has_lasted (Some t) now = nat_le longest_fin_wait_2.micros (apart now t)

abbrev pub with_timeout : View → View
with_timeout v = record v { timeout = Some (timeout_in v.state) }

-- a socket that was looked at: it has the timeout of its state, and is aborted where FIN-WAIT-2 has lasted
abbrev pub watched : Option Instant → View → Instant → View
watched since v now = if has_lasted since now then aborted (with_timeout v) else with_timeout v

-- outside of FIN-WAIT-2, for the first time in it, or not too soon
abbrev pub may_dispatch : Option Instant → Option Instant → Instant → Bool
may_dispatch None last now = true
may_dispatch (Some t) None now = true
may_dispatch (Some t) (Some u) now = nat_le pace.micros (apart now u)

-- how often the socket was dispatched at this moment
abbrev pub taken_at : Option Instant → ℕ → Instant → ℕ
taken_at None taken now = 0
taken_at (Some t) taken now = if apart now t == 0 then taken else 0

-- not too often at this moment, and not too soon
abbrev pub may_take : ℕ → Option Instant → Option Instant → Instant → Bool
may_take taken since last now = nat_lt taken turns && may_dispatch since last now

-- how often it was, after one was asked for and allowed or not
abbrev pub taken_after : Bool → ℕ → ℕ
taken_after true taken = taken + 1
taken_after false taken = taken

-- the last dispatch in FIN-WAIT-2, after one was asked for and allowed or not
abbrev pub last_after : Bool → Option Instant → Option Instant → Instant → Option Instant
last_after true (Some t) last now = Some now
last_after _ since last now = last

abbrev pub later_moment : Instant → Instant → Instant
later_moment t u = if int_le t.micros u.micros then u else t

-- what a socket asks for, but not before a moment
abbrev pub not_before : Instant → PollAt → PollAt
not_before t poll.Now = poll.Time t
not_before t (poll.Time u) = poll.Time (later_moment t u)
not_before t poll.Ingress = poll.Ingress

abbrev pub paced : Option Instant → PollAt → PollAt
paced None asked = asked
paced (Some t) asked = not_before (after t pace) asked

-- when a host looks at the socket again
abbrev pub guarded_poll : Option Instant → Option Instant → PollAt → PollAt
guarded_poll None last asked = asked
guarded_poll (Some t) last asked = earlier (paced last asked) (poll.Time (after t longest_fin_wait_2))
