-- Moments that lie within a bound of the latest moment told, and the timers that hold them.
use Rattle.std.proofs.Common.{◌≡◌, ℕ, ◌≤◌, Bool, true, false, ◌&&◌, refl, Option, Some, None, arith}
use Rattle.std.specs.Prelude.{if◌then◌else◌, ◌==◌, nat_le, ◌≤ℤ◌, ◌*◌}
use Rattle.std.proofs.lemmas.Int.{ints}
use Rattle.std.proofs.lemmas.Bool.{and_parts, le-leb, leb-true}
use Rattle.net_base.specs.declared.time.Duration.{Duration}
use Rattle.net_base.specs.declared.time.Instant.{Instant}
use Rattle.control_wire.specs.declared.seq_number.TcpSeqNumber.{TcpSeqNumber}
use Rattle.sock_core.specs.Estimator.{Estimator, acked, timed_from, acked_at as sample_at, backed_off, begun_anew, bounded_below, echoed, echoed_at, is_backed_off, is_highest, millis_between, retransmitted, sampled, sent, stamped}
use Rattle.sock_core.specs.declared.rtte.Timing.{Timing}
use Rattle.sock_core.specs.declared.rtte.StampTiming.{StampTiming}
use Rattle.control_wire.specs.Seq.{seq_of}
use Rattle.sock_tcp.specs.Due.{is_opening}
use Rattle.sock_tcp.specs.Rfc.Idle.{idle_by as idle_at_by}
use Rattle.sock_tcp.specs.Rfc.RoundTrips.{echo_heard, sending_measured, stamp_timed}
use Rattle.sock_tcp.specs.declared.emission.Emitted.{Emitted}
use Rattle.sock_tcp.specs.declared.rules.Rules.{Rules}
use Rattle.sock_tcp.specs.declared.rules.Rules.TheVariants as rules
use Rattle.sock_core.specs.Seq.{is_before}
use Rattle.sock_tcp.specs.Process.{timer_restarted}
use Rattle.sock_tcp.specs.Rfc.Reordering.{late_wait}
use Rattle.sock_tcp.specs.Rfc.TailLoss.{tail_wait, sooner}
use Rattle.sock_tcp.specs.Rfc.Recovery.{soonest}
use Rattle.sock_tcp.specs.Steps.{delay_of, next_delay, is_ack_owed, is_second, timer_acked, probe_ended, probe_set, begins_probe}
use Rattle.sock_tcp.specs.Timers.{after, close_delay, close_from, retransmit_from, rto_of, twice, idle_from, is_over, keep_alive_renewed, probe_doubled, probe_from, retransmit_unless_set}
use Rattle.sock_tcp.specs.View.{View}
use Rattle.sock_tcp.specs.Window.{next_ack}
use Rattle.sock_tcp.specs.declared.acked.Acked.{Acked}
use Rattle.sock_tcp.specs.declared.state.State.{State}
use Rattle.sock_tcp.specs.declared.state.State.TheVariants as state
use Rattle.sock_tcp.specs.declared.timer.Timer.{Timer}
use Rattle.sock_tcp.specs.declared.timer.Timer.TheVariants as timer
use Rattle.sock_tcp.specs.declared.timer.AckDelayTimer.{AckDelayTimer}
use Rattle.sock_tcp.specs.declared.timer.AckDelayTimer.TheVariants as ack_delay

-- ---- the bounds

module _ (last : Instant) (most : Duration) where
  abbrev pub is_by : Instant → Bool
  is_by at = is_over at (after last most)

  abbrev pub is_timer_by : Timer → Bool
  is_timer_by (timer.Idle None) = true
  is_timer_by (timer.Idle (Some at)) = is_by at
  is_timer_by (timer.Retransmit at) = is_by at
  is_timer_by timer.FastRetransmit = true
  is_timer_by (timer.ZeroWindowProbe at delay) = is_by at && nat_le delay.micros 60000000
  is_timer_by (timer.Close at) = is_by at

  abbrev pub is_delay_by : AckDelayTimer → Bool
  is_delay_by (ack_delay.Waiting at) = is_by at
  is_delay_by _ = true

  abbrev pub is_short : Option Duration → Bool
  is_short None = true
  is_short (Some d) = nat_le d.micros most.micros

  abbrev pub is_moment_by : Option Instant → Bool
  is_moment_by None = true
  is_moment_by (Some at) = is_by at

  pub record Timed (t : Timer) (a : AckDelayTimer) (e : Estimator) (keep delay : Option Duration) (idle_at : Option Instant) : Type 0 where
    pub timer : is_timer_by t ≡ true
    pub waits : is_delay_by a ≡ true
    pub timeout : e.rto ≤ 60000
    pub keep_short : is_short keep ≡ true
    pub delay_short : is_short delay ≡ true
    pub idle : is_moment_by idle_at ≡ true

  abbrev pub IsTimed : View → Type 0
  IsTimed v = Timed v.timer v.ack_delay_timer v.rtte v.keep_alive v.ack_delay v.idle_at

-- ---- moments

pub and_true : (a b : Bool) → a ≡ true → b ≡ true → (a && b) ≡ true
and_true a b e f = rw (e, f) refl

later_by : (last now : Instant) (most : Duration) (at : Instant) → last.micros ≤ℤ now.micros → is_by last most at ≡ true → is_by now most at ≡ true
later_by last now most at h e = grind (arith, ints)

later_timer : (last now : Instant) (most : Duration) (t : Timer) → last.micros ≤ℤ now.micros → is_timer_by last most t ≡ true → is_timer_by now most t ≡ true
later_timer last now most (timer.Idle None) h e = refl
later_timer last now most (timer.Idle (Some at)) h e = later_by last now most at h e
later_timer last now most (timer.Retransmit at) h e = later_by last now most at h e
later_timer last now most timer.FastRetransmit h e = refl
later_timer last now most (timer.ZeroWindowProbe at delay) h e = let p = and_parts (is_by last most at) (nat_le delay.micros 60000000) e in and_true (is_by now most at) (nat_le delay.micros 60000000) (later_by last now most at h p.0) p.1
later_timer last now most (timer.Close at) h e = later_by last now most at h e

later_delay : (last now : Instant) (most : Duration) (a : AckDelayTimer) → last.micros ≤ℤ now.micros → is_delay_by last most a ≡ true → is_delay_by now most a ≡ true
later_delay last now most ack_delay.Idle h e = refl
later_delay last now most ack_delay.Immediate h e = refl
later_delay last now most (ack_delay.Waiting at) h e = later_by last now most at h e

later_moment : (last now : Instant) (most : Duration) (o : Option Instant) → last.micros ≤ℤ now.micros → is_moment_by last most o ≡ true → is_moment_by now most o ≡ true
later_moment last now most None h e = refl
later_moment last now most (Some at) h e = later_by last now most at h e

pub later_timed : (last now : Instant) (most : Duration) (v : View) → last.micros ≤ℤ now.micros → IsTimed last most v → IsTimed now most v
later_timed last now most v h i = record { timer = later_timer last now most v.timer h i.timer; waits = later_delay last now most v.ack_delay_timer h i.waits; timeout = i.timeout; keep_short = i.keep_short; delay_short = i.delay_short; idle = later_moment last now most v.idle_at h i.idle }

-- ---- the estimator

pub acked_short : (e : Estimator) (now : Instant) (n : TcpSeqNumber) → e.rto ≤ 60000 → (acked e now n).rto ≤ 60000
unfolding acked sampled
acked_short e now n h = by e.timing
  where
    by : (t : Option Timing) → (sample_at t e now n).rto ≤ 60000
    by None = h
    by (Some t) = go (is_before n t.number)
      where
        go : (b : Bool) → (if b then e else record (sampled e (millis_between now t.at)) { timing = None; stamp_timing = None }).rto ≤ 60000
        go true = h
        go false = omega arith

sent_short : (e : Estimator) (now : Instant) (n : TcpSeqNumber) → e.rto ≤ 60000 → (sent e now n).rto ≤ 60000
unfolding sent
sent_short e now n h = go (is_highest e.highest n)
  where
    go : (b : Bool) → (if b then record e { highest = Some n; timing = timed_from e.timing now n } else e).rto ≤ 60000
    go true = h
    go false = h

echoed_short : (e : Estimator) (now : Instant) (t : ℕ) → e.rto ≤ 60000 → (echoed e now t).rto ≤ 60000
unfolding echoed sampled
echoed_short e now t h = by e.stamp_timing
  where
    by : (s : Option StampTiming) → (echoed_at s e now t).rto ≤ 60000
    by None = h
    by (Some s) = go (t == s.stamp) (is_before (seq_of s.stamp) (seq_of t))
      where
        go : (b c : Bool) → (if b then record (sampled e (millis_between now s.at)) { stamp_timing = None } else (if c then record e { stamp_timing = None } else e)).rto ≤ 60000
        go true c = omega arith
        go false true = h
        go false false = h

pub heard_short : (news : Bool) (echo : Option ℕ) (e : Estimator) (now : Instant) → e.rto ≤ 60000 → (echo_heard news echo e now).rto ≤ 60000
heard_short true (Some t) e now h = echoed_short e now t h
heard_short true None e now h = h
heard_short false echo e now h = h

stamped_short : (r : Rules) (opening : Bool) (e : Estimator) (now : Instant) (t : Option ℕ) → e.rto ≤ 60000 → (stamp_timed r opening e now t).rto ≤ 60000
unfolding stamped
stamped_short rules.Rfc false e now (Some t) h = h
stamped_short rules.Rfc false e now None h = h
stamped_short rules.Rfc true e now t h = h
stamped_short rules.Smoltcp opening e now t h = h

pub measured_short : (v : View) (now : Instant) (s : Emitted) → v.rtte.rto ≤ 60000 → (sending_measured v now s).rto ≤ 60000
measured_short v now s h = stamped_short v.rules (is_opening v.state) (sent v.rtte now s.end) now s.stamp (sent_short v.rtte now s.end h)

pub again_short : (e : Estimator) → e.rto ≤ 60000 → (retransmitted (backed_off e)).rto ≤ 60000
unfolding retransmitted backed_off
again_short e h = omega arith

pub fast_short : (e : Estimator) → e.rto ≤ 60000 → (retransmitted e).rto ≤ 60000
unfolding retransmitted
fast_short e h = h

pub bounded_short : (e : Estimator) (n : ℕ) → e.rto ≤ 60000 → (bounded_below e n).rto ≤ 60000
unfolding bounded_below
bounded_short e n h = h

anew_short : (e : Estimator) → e.rto ≤ 60000 → (begun_anew e).rto ≤ 60000
unfolding begun_anew
anew_short e h = go (is_backed_off e)
  where
    go : (b : Bool) → (if b then record e { rto = 3000; backoffs = 0 } else e).rto ≤ 60000
    go true = omega arith
    go false = h

pub opened_short : (b m : Bool) (e : Estimator) → e.rto ≤ 60000 → (if b then begun_anew e else (if m then retransmitted e else e)).rto ≤ 60000
opened_short true m e h = anew_short e h
opened_short false true e h = fast_short e h
opened_short false false e h = h

module _ (most : Duration) (minute : 60000000 ≤ most.micros) where
  -- ---- timers that are set now

  module _ (now : Instant) where
    soon : (d : Duration) → d.micros ≤ most.micros → is_by now most (after now d) ≡ true
    soon d h = grind (arith, ints)

    pub idle_by : (keep : Option Duration) → is_short now most keep ≡ true → is_timer_by now most (idle_from now keep) ≡ true
    idle_by None h = refl
    idle_by (Some d) h = soon d (leb-true d.micros most.micros h)

    pub rto_by : (e : Estimator) → e.rto ≤ 60000 → is_by now most (after now (rto_of e)) ≡ true
    rto_by e h = soon (rto_of e) (omega (arith, h, minute))

    -- from when on nothing was sent for a timeout
    pub sent_by : (r : Rules) (at : Option Instant) (e : Estimator) → e.rto ≤ 60000 → is_moment_by now most at ≡ true → is_moment_by now most (idle_at_by r at now e) ≡ true
    sent_by rules.Smoltcp at e s h = h
    sent_by rules.Rfc at e s h = rto_by e s

    pub tail_by : (e : Estimator) (alone : Bool) → e.rto ≤ 60000 → is_by now most (after now (tail_wait e alone)) ≡ true
    tail_by e alone h = soon (tail_wait e alone) (omega (arith, h, minute))

    pub late_by : (n : ℕ) (e : Estimator) → e.rto ≤ 60000 → is_by now most (after now (late_wait n e)) ≡ true
    late_by n e h = soon (late_wait n e) (omega (arith, h, minute))

    pub sooner_by : (t u : Instant) → is_by now most t ≡ true → is_by now most u ≡ true → is_by now most (sooner t u) ≡ true
    sooner_by t u h k = go (is_over t u)
      where
        go : (b : Bool) → is_by now most (if b then t else u) ≡ true
        go true = h
        go false = k

    pub soonest_by : (idle : Option Instant) (t : Instant) → is_moment_by now most idle ≡ true → is_by now most t ≡ true → is_by now most (soonest idle t) ≡ true
    soonest_by None t i h = h
    soonest_by (Some u) t i h = sooner_by t u h i

    pub probe_soonest_by : (idle : Option Instant) (at : Instant) (delay : Duration) → is_moment_by now most idle ≡ true → is_timer_by now most (timer.ZeroWindowProbe at delay) ≡ true → is_timer_by now most (timer.ZeroWindowProbe (soonest idle at) delay) ≡ true
    probe_soonest_by idle at delay i h = let p = and_parts (is_by now most at) (nat_le delay.micros 60000000) h in and_true (is_by now most (soonest idle at)) (nat_le delay.micros 60000000) (soonest_by idle at i p.0) p.1

    pub probe_by : (e : Estimator) → e.rto ≤ 60000 → is_timer_by now most (probe_from now e) ≡ true
    probe_by e h = and_true (is_by now most (after now (rto_of e))) (nat_le (e.rto * 1000) 60000000) (rto_by e h) (le-leb (e.rto * 1000) 60000000 (omega (arith, h)))

    pub close_by : is_timer_by now most (close_from now) ≡ true
    close_by = soon close_delay (omega (arith, minute))

    pub renewed_by : (t : Timer) (keep : Option Duration) → is_short now most keep ≡ true → is_timer_by now most t ≡ true → is_timer_by now most (keep_alive_renewed t now keep) ≡ true
    renewed_by (timer.Idle at) keep k h = idle_by keep k
    renewed_by (timer.Retransmit at) keep k h = h
    renewed_by timer.FastRetransmit keep k h = h
    renewed_by (timer.ZeroWindowProbe at delay) keep k h = h
    renewed_by (timer.Close at) keep k h = h

    pub doubled_by : (t : Timer) → is_timer_by now most t ≡ true → is_timer_by now most (probe_doubled t now) ≡ true
    doubled_by (timer.ZeroWindowProbe at delay) h = and_true (is_by now most (after now (twice delay))) (nat_le (twice delay).micros 60000000) (soon (twice delay) (omega (arith, minute))) (le-leb (twice delay).micros 60000000 (omega arith))
    doubled_by (timer.Idle at) h = h
    doubled_by (timer.Retransmit at) h = h
    doubled_by timer.FastRetransmit h = h
    doubled_by (timer.Close at) h = h

    pub timed_by : (t : Timer) (e : Estimator) → e.rto ≤ 60000 → is_timer_by now most t ≡ true → is_timer_by now most (retransmit_unless_set t now e) ≡ true
    timed_by (timer.Idle at) e r h = rto_by e r
    timed_by (timer.ZeroWindowProbe at delay) e r h = rto_by e r
    timed_by (timer.Retransmit at) e r h = h
    timed_by timer.FastRetransmit e r h = h
    timed_by (timer.Close at) e r h = h

    pub restarted_by : (st : State) (t : Timer) → is_timer_by now most t ≡ true → is_timer_by now most (timer_restarted st t now) ≡ true
    restarted_by state.TimeWait t h = close_by
    restarted_by _ t h = h

    pub acked_by : (t : Timer) (v : View) (a : Acked) → is_short now most v.keep_alive ≡ true → v.rtte.rto ≤ 60000 → is_timer_by now most t ≡ true → is_timer_by now most (timer_acked t v now a) ≡ true
    acked_by t v a k r h = by t h
      where
        waits : (t : Timer) → is_timer_by now most t ≡ true → (all none : Bool) → is_timer_by now most (if all then idle_from now v.keep_alive else (if none then t else retransmit_from now v.rtte)) ≡ true
        waits t h true none = idle_by v.keep_alive k
        waits t h false true = h
        waits t h false false = rto_by v.rtte r

        by : (t : Timer) → is_timer_by now most t ≡ true → is_timer_by now most (timer_acked t v now a) ≡ true
        by (timer.Idle at) h = idle_by v.keep_alive k
        by (timer.Retransmit at) h = waits (timer.Retransmit at) h a.all (a.len == 0)
        by timer.FastRetransmit h = waits timer.FastRetransmit h a.all (a.len == 0)
        by (timer.ZeroWindowProbe at delay) h = h
        by (timer.Close at) h = h

    pub set_by : (t : Timer) (v : View) (a : Acked) → is_short now most v.keep_alive ≡ true → v.rtte.rto ≤ 60000 → is_timer_by now most t ≡ true → is_timer_by now most (probe_set t v now a) ≡ true
    set_by t v a k r h = go (v.remote_win_len == 0)
      where
        begins : (b : Bool) → is_timer_by now most (if b then probe_from now v.rtte else t) ≡ true
        begins true = probe_by v.rtte r
        begins false = h

        ends : (t : Timer) → is_timer_by now most t ≡ true → is_timer_by now most (probe_ended t v now) ≡ true
        ends (timer.ZeroWindowProbe at delay) h = idle_by v.keep_alive k
        ends (timer.Idle at) h = h
        ends (timer.Retransmit at) h = h
        ends timer.FastRetransmit h = h
        ends (timer.Close at) h = h

        go : (b : Bool) → is_timer_by now most (if b then (if begins_probe t v a then probe_from now v.rtte else t) else probe_ended t v now) ≡ true
        go true = begins (begins_probe t v a)
        go false = ends t h

    pub delayed_by : (o : Option Duration) (v : View) → is_short now most o ≡ true → is_delay_by now most v.ack_delay_timer ≡ true → is_delay_by now most (delay_of o v now) ≡ true
    delayed_by None v s h = h
    delayed_by (Some d) v s h = go (is_ack_owed v.remote_last_ack 0 (next_ack v))
      where
        more : (b : Bool) (at : Instant) → is_by now most at ≡ true → is_delay_by now most (if b then ack_delay.Immediate else ack_delay.Waiting at) ≡ true
        more true at h = refl
        more false at h = h

        next : (t : AckDelayTimer) → is_delay_by now most t ≡ true → is_delay_by now most (next_delay t v now d) ≡ true
        next ack_delay.Idle h = soon d (leb-true d.micros most.micros s)
        next (ack_delay.Waiting at) h = more (is_second v.rules v) at h
        next ack_delay.Immediate h = refl

        go : (b : Bool) → is_delay_by now most (if b then next_delay v.ack_delay_timer v now d else v.ack_delay_timer) ≡ true
        go true = next v.ack_delay_timer h
        go false = h
