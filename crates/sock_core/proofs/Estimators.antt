-- The estimator of the retransmission timeout.
use Rattle.std.proofs.Common.{◌≡◌, ℕ, ◌^◌, Bool, true, false, refl, cond, List, [], ◌∷◌, Option, Some, None, ap, arith}
use Rattle.std.specs.Prelude.{min, ◌==◌}
use Rattle.net_base.specs.declared.time.Instant.{Instant}
use Rattle.control_wire.specs.Seq.{seq_of}
use Rattle.control_wire.specs.declared.seq_number.TcpSeqNumber.{TcpSeqNumber}
use Rattle.sock_core.specs.declared.rtte.Smoothed.{Smoothed}
use Rattle.sock_core.specs.declared.rtte.StampTiming.{StampTiming}
use Rattle.sock_core.specs.declared.rtte.Timing.{Timing}
use Rattle.sock_core.specs.Seq.{is_before}
use Rattle.sock_core.specs.Estimator.{Estimator, fresh_estimator, IsTimeout, timeout_of, smoothed_by, sampled, is_highest, timed_from, sent, millis_between, acked_at, acked, stamped, echoed_at, echoed, backed_off, retransmitted, Call, Sample, OnSend, OnAck, OnStamp, OnEcho, OnRto, OnRetransmit, after_call, after_calls}

-- a sample that is cut before is cut to the same
pub sampled_cut : (e : Estimator) (x : ℕ) → sampled e (min x 268435456) ≡ sampled e x
unfolding sampled
sampled_cut e x =
    let same : min (min x 268435456) 268435456 ≡ min x 268435456 = omega arith in
    ap (λ n. let s = smoothed_by e.smoothed n in record e { smoothed = Some s; rto = timeout_of e.least s; backoffs = 0 }) same

-- what the law says of an estimator whose lowest timeout was not set
abbrev pub IsUnset : Estimator → Type 0
IsUnset e = IsTimeout e.rto × (e.least ≡ 1000)

in_range : (least : ℕ) (s : Smoothed) → least ≡ 1000 → IsTimeout (timeout_of least s)
in_range least s e = (omega (arith, e), omega (arith, e))

after_sample : (e : Estimator) (x : ℕ) → IsUnset e → IsUnset (sampled e x)
unfolding sampled
after_sample e x h = (in_range e.least (smoothed_by e.smoothed (min x (2 ^ 28))) h.1, h.1)

after_send : (e : Estimator) (now : Instant) (n : TcpSeqNumber) → IsUnset e → IsUnset (sent e now n)
unfolding sent
after_send e now n h = go (is_highest e.highest n)
  where
    go : (t : Bool) → IsUnset (cond t (record e { highest = Some n; timing = timed_from e.timing now n }) e)
    go true = h
    go false = h

after_ack : (e : Estimator) (now : Instant) (n : TcpSeqNumber) → IsUnset e → IsUnset (acked e now n)
unfolding acked
after_ack e now n h = timed e.timing
  where
    timed : (t : Option Timing) → IsUnset (acked_at t e now n)
    timed None = h
    timed (Some t) = go (is_before n t.number)
      where
        go : (b : Bool) → IsUnset (cond b e (record (sampled e (millis_between now t.at)) { timing = None; stamp_timing = None }))
        go true = h
        go false = after_sample e (millis_between now t.at) h

after_stamp : (e : Estimator) (now : Instant) (t : ℕ) → IsUnset e → IsUnset (stamped e now t)
unfolding stamped
after_stamp e now t h = h

after_echo : (e : Estimator) (now : Instant) (t : ℕ) → IsUnset e → IsUnset (echoed e now t)
unfolding echoed
after_echo e now t h = timed e.stamp_timing
  where
    timed : (s : Option StampTiming) → IsUnset (echoed_at s e now t)
    timed None = h
    timed (Some s) = go (t == s.stamp) (is_before (seq_of s.stamp) (seq_of t))
      where
        go : (b c : Bool) → IsUnset (cond b (record (sampled e (millis_between now s.at)) { stamp_timing = None }) (cond c (record e { stamp_timing = None }) e))
        go true c = after_sample e (millis_between now s.at) h
        go false true = h
        go false false = h

after_backoff : (e : Estimator) → IsUnset e → IsUnset (backed_off e)
unfolding backed_off
after_backoff e h = ((omega (arith, h.0.0), omega arith), h.1)

after_retransmit : (e : Estimator) → IsUnset e → IsUnset (retransmitted e)
unfolding retransmitted
after_retransmit e h = h

after_one : (c : Call) (e : Estimator) → IsUnset e → IsUnset (after_call c e)
after_one (Sample x) e h = after_sample e x h
after_one (OnSend now n) e h = after_send e now n h
after_one (OnAck now n) e h = after_ack e now n h
after_one (OnStamp now t) e h = after_stamp e now t h
after_one (OnEcho now t) e h = after_echo e now t h
after_one OnRto e h = after_backoff e h
after_one OnRetransmit e h = after_retransmit e h

-- from any estimator whose timeout is in range
pub stays_in_range : (calls : List Call) (e : Estimator) → IsUnset e → IsUnset (after_calls calls e)
stays_in_range [] e h = h
stays_in_range (c ∷ cs) e h = stays_in_range cs (after_call c e) (after_one c e h)

pub fresh_stays_in_range : (calls : List Call) → IsTimeout (after_calls calls fresh_estimator).rto
fresh_stays_in_range calls = (stays_in_range calls fresh_estimator ((omega arith, omega arith), refl)).0
