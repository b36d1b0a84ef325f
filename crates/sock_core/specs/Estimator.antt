-- The estimator of round-trip times and of the retransmission timeout (RFC 6298), in milliseconds.
use Rattle.std.specs.Prelude.{ℕ, ◌+◌, ◌*◌, ◌/◌, ◌^◌, ◌≤◌, ◌==◌, nat_lt, max, min, Bool, true, ◌&&◌, if◌then◌else◌}
use Rattle.std.specs.Prelude.{List, [], ◌∷◌, Option, None, Some, is_none, pos, ◌-ℤ◌, unsigned_abs, false}
use Rattle.std.specs.Int.{div_ceil, abs_diff}
use Rattle.net_base.specs.declared.time.Instant.{Instant}
use Rattle.control_wire.specs.Seq.{seq_of}
use Rattle.control_wire.specs.declared.seq_number.TcpSeqNumber.{TcpSeqNumber}
use Rattle.sock_core.specs.declared.rtte.Smoothed.{Smoothed}
use Rattle.sock_core.specs.declared.rtte.StampTiming.{StampTiming}
use Rattle.sock_core.specs.declared.rtte.Timing.{Timing}
use Rattle.sock_core.specs.Seq.{is_before}

pub record Estimator : Type 0 where
  pub smoothed : Option Smoothed  -- SRTT and RTTVAR, once there was a sample
  pub rto : ℕ  -- the retransmission timeout
  pub timing : Option Timing  -- the number whose acknowledgement is waited for, and when it was sent
  pub stamp_timing : Option StampTiming  -- the timestamp whose echo is waited for, and when it was sent
  pub highest : Option TcpSeqNumber  -- the highest number that was sent
  pub backoffs : ℕ  -- the timeouts since the last sample, or since the measurement was cleared
  pub least : ℕ  -- the lowest timeout that a sample makes

-- what stands in an estimator where nothing is timed
abbrev pub no_timing : Timing
no_timing = record { at = record { micros = pos 0 }; number = seq_of 0 }

abbrev pub no_stamp : StampTiming
no_stamp = record { at = record { micros = pos 0 }; stamp = 0 }

-- a second, and no measurement
abbrev pub fresh_estimator : Estimator
fresh_estimator =
    record {
      smoothed = None;
      rto = 1000;
      timing = None;
      stamp_timing = None;
      highest = None;
      backoffs = 0;
      least = 1000;
    }

-- between a second and a minute
abbrev pub IsTimeout : ℕ → Type 0
IsTimeout n = (1000 ≤ n) × (n ≤ 60000)

-- between a millisecond and a minute
abbrev pub IsWait : ℕ → Type 0
IsWait n = (1 ≤ n) × (n ≤ 60000)

-- at most 2 ^ 28 milliseconds, which is three days
abbrev pub AreSmall : Option Smoothed → Type 0
AreSmall None = Unit {0}
AreSmall (Some s) = (s.srtt ≤ 2 ^ 28) × (s.rttvar ≤ 2 ^ 28)

pub record IsEstimator (smoothed : Option Smoothed) (rto backoffs least : ℕ) : Type 0 where
  pub small : AreSmall smoothed
  pub timeout : IsWait rto
  pub few : backoffs ≤ 2
  pub lowest : IsWait least

-- ---- a sample of x milliseconds

abbrev pub smoothed_by : Option Smoothed → ℕ → Smoothed
smoothed_by None x = record { srtt = x; rttvar = x / 2 }
smoothed_by (Some s) x =
    record { srtt = div_ceil (7 * s.srtt + x) 8; rttvar = div_ceil (3 * s.rttvar + abs_diff s.srtt x) 4 }

-- at least so long
abbrev pub timeout_of : ℕ → Smoothed → ℕ
timeout_of least s = min (max least (s.srtt + max 5 (4 * s.rttvar))) 60000

-- cut at 2 ^ 28
unfoldable pub sampled : Estimator → ℕ → Estimator
sampled e x =
    let s = smoothed_by e.smoothed (min x (2 ^ 28)) in
    record e { smoothed = Some s; rto = timeout_of e.least s; backoffs = 0 }

-- ---- the other calls

abbrev pub is_highest : Option TcpSeqNumber → TcpSeqNumber → Bool
is_highest None n = true
is_highest (Some m) n = is_before m n

abbrev pub timed_from : Option Timing → Instant → TcpSeqNumber → Option Timing
timed_from None now n = Some (record { at = now; number = n })
timed_from (Some t) now n = Some t

-- the numbers before n are sent at a moment. Where n is a new highest number, it is kept, and timed where none is
unfoldable pub sent : Estimator → Instant → TcpSeqNumber → Estimator
sent e now n =
    if is_highest e.highest n then record e { highest = Some n; timing = timed_from e.timing now n } else e

-- whole milliseconds between two moments
abbrev pub millis_between : Instant → Instant → ℕ
millis_between a b = unsigned_abs (a.micros -ℤ b.micros) / 1000

-- the number n is acknowledged: at or after the timed number, the timing ends with a sample. A timestamp that was sent
-- before the number is waited for no longer, so that one thing alone gives a sample
abbrev pub acked_at : Option Timing → Estimator → Instant → TcpSeqNumber → Estimator
acked_at None e now n = e
acked_at (Some t) e now n =
    if is_before n t.number then e
    else record (sampled e (millis_between now t.at)) { timing = None; stamp_timing = None }

unfoldable pub acked : Estimator → Instant → TcpSeqNumber → Estimator
acked e now n = acked_at e.timing e now n

-- ---- what was sent again is timed by its timestamp, whose echo tells which sending is acknowledged (RFC 6298, section
-- 3; RFC 7323, section 4)

-- one thing is timed at a time
abbrev pub stamped_from : Option Timing → Option StampTiming → Instant → ℕ → Option StampTiming
stamped_from None None now t = Some (record { at = now; stamp = t })
stamped_from timing s now t = s

-- something is sent with the timestamp t, at a moment: where nothing is timed, that is
unfoldable pub stamped : Estimator → Instant → ℕ → Estimator
stamped e now t = record e { stamp_timing = stamped_from e.timing e.stamp_timing now t }

-- t is the timestamp whose echo is waited for
abbrev pub is_awaited : Option StampTiming → ℕ → Bool
is_awaited None t = false
is_awaited (Some s) t = t == s.stamp

-- something new is acknowledged, with the echo t: of the timestamp that is waited for, it ends with a sample; of a
-- later one, what was sent with it is acknowledged, or was sent again since, and it ends without; of an earlier one,
-- what was sent before it is acknowledged, and it is waited for on
abbrev pub echoed_at : Option StampTiming → Estimator → Instant → ℕ → Estimator
echoed_at None e now t = e
echoed_at (Some s) e now t =
    if t == s.stamp then record (sampled e (millis_between now s.at)) { stamp_timing = None }
    else (if is_before (seq_of s.stamp) (seq_of t) then record e { stamp_timing = None } else e)

unfoldable pub echoed : Estimator → Instant → ℕ → Estimator
echoed e now t = echoed_at e.stamp_timing e now t

-- ---- what is sent again

-- the retransmission timer ran out: the timeout doubles, to a minute at most. The third time without a sample between
-- clears the measurement. All is sent again, and its timestamps are waited for
unfoldable pub backed_off : Estimator → Estimator
backed_off e =
    record e {
      rto = min (2 * e.rto) 60000;
      stamp_timing = None;
      backoffs = if e.backoffs == 2 then 0 else e.backoffs + 1;
      smoothed = if e.backoffs == 2 then None else e.smoothed;
    }

-- what is sent again is not timed by its number (Karn's algorithm, RFC 6298, section 3)
unfoldable pub retransmitted : Estimator → Estimator
retransmitted e = record e { timing = None }

-- samples make no lower timeout from now on
unfoldable pub bounded_below : Estimator → ℕ → Estimator
bounded_below e n = record e { least = n }

-- a new one with this lowest timeout
abbrev pub begun_with : ℕ → Estimator
begun_with n = record fresh_estimator { least = n }

-- nothing was measured, and the timer ran out
abbrev pub is_backed_off : Estimator → Bool
is_backed_off e = is_none e.smoothed && nat_lt 1000 e.rto

-- bytes begin to go out: where the SYN was sent again, the timeout begins anew with three seconds (RFC 6298, rule 5.7)
unfoldable pub begun_anew : Estimator → Estimator
begun_anew e = if is_backed_off e then record e { rto = 3000; backoffs = 0 } else e

-- what the getters answer: 0 without a measurement
abbrev pub srtt_of : Option Smoothed → ℕ
srtt_of None = 0
srtt_of (Some s) = s.srtt

abbrev pub rttvar_of : Option Smoothed → ℕ
rttvar_of None = 0
rttvar_of (Some s) = s.rttvar

-- ---- lists of calls

pub data Call : Type 0 where
  Sample : ℕ → Call
  OnSend OnAck : Instant → TcpSeqNumber → Call
  OnStamp OnEcho : Instant → ℕ → Call
  OnRto OnRetransmit : Call

abbrev pub after_call : Call → Estimator → Estimator
after_call (Sample x) e = sampled e x
after_call (OnSend now n) e = sent e now n
after_call (OnAck now n) e = acked e now n
after_call (OnStamp now t) e = stamped e now t
after_call (OnEcho now t) e = echoed e now t
after_call OnRto e = backed_off e
after_call OnRetransmit e = retransmitted e

abbrev pub after_calls : List Call → Estimator → Estimator
after_calls [] e = e
after_calls (c ∷ cs) e = after_calls cs (after_call c e)
