-- How much longer a loss is waited for once segments came late and were not lost, by the RFCs' rules (RFC 8985, section
-- 6.2).
use Rattle.std.specs.Prelude.{ℕ, ◌+◌, ◌*◌, ◌^◌, nat_lt, length, min, Bool, true, false, not}
use Rattle.std.specs.Prelude.{◌==◌, ◌&&◌, ◌||◌}
use Rattle.net_base.specs.declared.time.Duration.{Duration}
use Rattle.net_base.specs.declared.time.Instant.{Instant}
use Rattle.sock_core.specs.Estimator.{Estimator, srtt_of}
use Rattle.sock_tcp.specs.Content.{carries_data}
use Rattle.sock_tcp.specs.Rfc.Pipe.{told_before}
use Rattle.sock_tcp.specs.Timers.{after, sooner}
use Rattle.sock_tcp.specs.View.{View}
use Rattle.sock_tcp.specs.declared.recovery.Recovery.{Recovery}
use Rattle.sock_tcp.specs.declared.recovery.Recovery.TheVariants as recovery
use Rattle.sock_tcp.specs.declared.scoreboard.Scoreboard.{Scoreboard}
use Rattle.sock_tcp.specs.declared.timer.Timer.{Timer}
use Rattle.sock_tcp.specs.declared.timer.Timer.TheVariants as timer

-- no fast retransmission went out of which not all is acknowledged, and no timeout was
abbrev pub is_over : Recovery → Bool
is_over recovery.Open = true
is_over (recovery.Probe start end again) = true
is_over _ = false

-- there are bytes to send again
abbrev pub may_resend : View → Bool
may_resend w = carries_data w.state && not (length w.tx_buffer.bytes == 0)

-- where so many quarters of a round trip are waited for, and at least one: the third duplicate, or more than two
-- segments behind a hole at SND.UNA, told of a loss
abbrev pub is_told : ℕ → ℕ → Scoreboard → ℕ → Bool
is_told n duplicates k mss = not (n == 0) && (nat_lt 2 duplicates || nat_lt (2 * mss) (told_before k (2 ^ 32)))

-- a loss was told, and is waited for
abbrev pub is_late : View → Bool
is_late v =
    is_told v.reordering v.local_rx_dup_acks v.sacked v.remote_mss && (may_resend v && is_over v.recovery)

-- one more quarter, of at most four: at most a round trip is waited for
abbrev pub one_more : ℕ → ℕ
one_more n = min n 3 + 1

-- so long, and at most as long as a retransmission
abbrev pub late_wait : ℕ → Estimator → Duration
late_wait n e = record { micros = min (n * (srtt_of e.smoothed * 250)) (e.rto * 1000) }

-- the timer that waits for news of the peer is over then, and no later than it was
abbrev pub late_set : Bool → Timer → Instant → Duration → Timer
late_set true (timer.Retransmit at) now d = timer.Retransmit (sooner at (after now d))
late_set _ t now d = t
