-- Moments and timers.
use Rattle.std.specs.Prelude.{◌*◌, ◌≤◌, min, pos, ◌+ℤ◌, int_le, Option, Some, None, Bool, true, false, if◌then◌else◌}
use Rattle.std.specs.Option.{ForSome}
use Rattle.net_base.specs.declared.time.Duration.{Duration}
use Rattle.net_base.specs.declared.time.Instant.{Instant}
use Rattle.sock_core.specs.Bounds.{IsMoment}
use Rattle.sock_core.specs.Estimator.{Estimator}
use Rattle.sock_tcp.specs.declared.timer.Timer.{Timer}
use Rattle.sock_tcp.specs.declared.timer.Timer.TheVariants as timer

-- ---- moments

abbrev pub after : Instant → Duration → Instant
after t d = record { micros = t.micros +ℤ pos d.micros }

-- now is t or later
abbrev pub is_over : Instant → Instant → Bool
is_over t now = int_le t.micros now.micros

abbrev pub sooner : Instant → Instant → Instant
sooner t u = if is_over t u then t else u

-- ---- lengths of time

-- how long an acknowledgement is waited for
abbrev pub rto_of : Estimator → Duration
rto_of e = record { micros = e.rto * 1000 }

-- how long TIME-WAIT lasts
abbrev pub close_delay : Duration
close_delay = record { micros = 10000000 }

-- how long after a challenge ACK none goes out
abbrev pub challenge_interval : Duration
challenge_interval = record { micros = 1000000 }

-- the longest time between two probes
abbrev pub longest_probe : Duration
longest_probe = record { micros = 60000000 }

-- ---- timers

-- nothing is waited for but a keep-alive, one interval from now
abbrev pub idle_from : Instant → Option Duration → Timer
idle_from now None = timer.Idle None
idle_from now (Some interval) = timer.Idle (Some (after now interval))

-- what is not acknowledged is sent again so long from now
abbrev pub retransmit_from : Instant → Estimator → Timer
retransmit_from now e = timer.Retransmit (after now (rto_of e))

-- a window is probed for so long from now
abbrev pub probe_from : Instant → Estimator → Timer
probe_from now e = timer.ZeroWindowProbe (after now (rto_of e)) (rto_of e)

abbrev pub close_from : Instant → Timer
close_from now = timer.Close (after now close_delay)

abbrev pub is_idle : Timer → Bool
is_idle (timer.Idle at) = true
is_idle t = false

-- ---- the moments that a dispatch asks for

-- a keep-alive is to go out
abbrev pub is_keep_alive_over : Timer → Instant → Bool
is_keep_alive_over (timer.Idle (Some t)) now = is_over t now
is_keep_alive_over _ now = false

-- a window is to be probed for
abbrev pub is_probe_over : Timer → Instant → Bool
is_probe_over (timer.ZeroWindowProbe t delay) now = is_over t now
is_probe_over _ now = false

-- TIME-WAIT ends
abbrev pub is_close_over : Timer → Instant → Bool
is_close_over (timer.Close t) now = is_over t now
is_close_over _ now = false

-- ---- what an emit does to the timer

-- the next keep-alive is one interval from now
abbrev pub keep_alive_renewed : Timer → Instant → Option Duration → Timer
keep_alive_renewed (timer.Idle at) now interval = idle_from now interval
keep_alive_renewed t now interval = t

-- twice as long, and at most the longest
abbrev pub twice : Duration → Duration
twice d = record { micros = min (d.micros * 2) longest_probe.micros }

-- the next probe comes after twice the delay, from now
abbrev pub probe_doubled : Timer → Instant → Timer
probe_doubled (timer.ZeroWindowProbe t delay) now = timer.ZeroWindowProbe (after now (twice delay)) (twice delay)
probe_doubled t now = t

-- a segment that takes sequence numbers went out: where nothing is sent again yet, it will be. TIME-WAIT stays
abbrev pub retransmit_unless_set : Timer → Instant → Estimator → Timer
retransmit_unless_set (timer.Idle at) now e = retransmit_from now e
retransmit_unless_set (timer.ZeroWindowProbe t delay) now e = retransmit_from now e
retransmit_unless_set t now e = t

-- ---- bounds

-- probes are at most a minute apart
abbrev pub IsTimer : Timer → Type 0
IsTimer (timer.ZeroWindowProbe t delay) = delay.micros ≤ 60000000
IsTimer t = Unit {0}

abbrev pub IsLastTs : Option Instant → Type 0
IsLastTs last = ForSome last (λ t. IsMoment t.micros)
