-- Any call keeps it: the retransmission timeout is longer than nothing.
use Rattle.std.proofs.Common.{◌≡◌, ℕ, ◌<◌, Bool, true, false, sym, ap, subst, Option, Some, None, arith}
use Rattle.std.specs.Prelude.{if◌then◌else◌, ◌==◌}
use Rattle.std.proofs.lemmas.Int.{ints}
use Rattle.net_base.specs.declared.time.Duration.{Duration}
use Rattle.net_base.specs.declared.time.Instant.{Instant}
use Rattle.control_wire.specs.Segment.{Segment}
use Rattle.control_wire.specs.declared.seq_number.TcpSeqNumber.{TcpSeqNumber}
use Rattle.sock_core.specs.Estimator.{Estimator, acked, acked_at, backed_off, begun_anew, bounded_below, echoed, echoed_at, is_backed_off, is_highest, millis_between, retransmitted, sampled, sent, stamped, timed_from}
use Rattle.sock_core.specs.declared.rtte.Timing.{Timing}
use Rattle.sock_core.specs.declared.rtte.StampTiming.{StampTiming}
use Rattle.control_wire.specs.Seq.{seq_of}
use Rattle.sock_tcp.specs.PathMtu.{all_sent_again, shortened}
use Rattle.sock_tcp.specs.Due.{is_opening}
use Rattle.sock_tcp.specs.Rfc.RoundTrips.{echo_heard, sending_measured, stamp_timed}
use Rattle.sock_tcp.specs.declared.emission.Emitted.{Emitted}
use Rattle.sock_tcp.specs.declared.rules.Rules.{Rules}
use Rattle.sock_tcp.specs.declared.rules.Rules.TheVariants as rules
use Rattle.sock_core.specs.Seq.{is_before}
use Rattle.sock_tcp.specs.Advance.{fallen_back, fin_counted, options_taken, syn_answered, syn_received}
use Rattle.sock_tcp.specs.Begin.{retransmission_begun, fast_retransmission_marked, readied}
use Rattle.sock_tcp.specs.Opening.{connected, listened, renewed}
use Rattle.sock_tcp.specs.Process.{close_restarted}
use Rattle.sock_tcp.specs.Queues.{queued, read_off}
use Rattle.sock_tcp.specs.Replies.{ack_kept}
use Rattle.sock_tcp.specs.Rfc.Recovery.{before_of, echo_known, is_news, is_opened, marks, recovered}
use Rattle.sock_tcp.specs.Rfc.TailLoss.{probed_by, tail_probed}
use Rattle.sock_tcp.specs.Sent.{after_any, after_probe, snd_nxt_moved}
use Rattle.sock_tcp.specs.Steps.{window_taken, released, duplicate_counted, ack_counted, una_advanced, timestamp_taken, timer_set, heard, joined, ack_delayed}
use Rattle.sock_tcp.specs.Timers.{after, is_over}
use Rattle.sock_tcp.specs.Rfc.Windows.{windowed}
use Rattle.sock_tcp.specs.View.{View, fresh, moment_of}
use Rattle.sock_tcp.specs.declared.acked.Acked.{Acked}
use Rattle.tcp_laws.specs.Polling.{IsReached}
use Rattle.tcp_laws.specs.SocketRun.{Sets}
use Rattle.tcp_laws.specs.SocketRun.{SetCongestionControl, SetTimeout, SetAckDelay, SetNagle, SetKeepAlive, SetHopLimit, PauseSynAck, SetTsvalGenerator, SetRules, SetMinRto}
use Rattle.tcp_laws.proofs.Kept.{Kept, KeptByBeginnings, KeptByCalls, KeptByRows, KeptBySegments, KeptBySending, heard_kept, process_kept, reached_kept, readied_kept, sends_kept}
use Rattle.tcp_laws.proofs.SocketSteps.{same_number}

abbrev pub IsPaced : View → Type 0
IsPaced v = 0 < v.rtte.rto

-- what comes after so long is not over now
pub not_yet : (now : Instant) (d : Duration) → 0 < d.micros → is_over (after now d) now ≡ false
not_yet now d h = grind (arith, ints)

-- ---- the estimator

acked_paced : (e : Estimator) (now : Instant) (n : TcpSeqNumber) → 0 < e.rto → 0 < (acked e now n).rto
unfolding acked sampled
acked_paced e now n h = by e.timing
  where
    by : (t : Option Timing) → 0 < (acked_at t e now n).rto
    by None = h
    by (Some t) = go (is_before n t.number)
      where
        go : (b : Bool) → 0 < (if b then e else record (sampled e (millis_between now t.at)) { timing = None; stamp_timing = None }).rto
        go true = h
        go false = omega arith

sent_paced : (e : Estimator) (now : Instant) (n : TcpSeqNumber) → 0 < e.rto → 0 < (sent e now n).rto
unfolding sent
sent_paced e now n h = go (is_highest e.highest n)
  where
    go : (b : Bool) → 0 < (if b then record e { highest = Some n; timing = timed_from e.timing now n } else e).rto
    go true = h
    go false = h

echoed_paced : (e : Estimator) (now : Instant) (t : ℕ) → 0 < e.rto → 0 < (echoed e now t).rto
unfolding echoed sampled
echoed_paced e now t h = by e.stamp_timing
  where
    by : (s : Option StampTiming) → 0 < (echoed_at s e now t).rto
    by None = h
    by (Some s) = go (t == s.stamp) (is_before (seq_of s.stamp) (seq_of t))
      where
        go : (b c : Bool) → 0 < (if b then record (sampled e (millis_between now s.at)) { stamp_timing = None } else (if c then record e { stamp_timing = None } else e)).rto
        go true c = omega arith
        go false true = h
        go false false = h

echo_paced : (news : Bool) (echo : Option ℕ) (e : Estimator) (now : Instant) → 0 < e.rto → 0 < (echo_heard news echo e now).rto
echo_paced true (Some t) e now h = echoed_paced e now t h
echo_paced true None e now h = h
echo_paced false echo e now h = h

stamped_paced : (r : Rules) (opening : Bool) (e : Estimator) (now : Instant) (t : Option ℕ) → 0 < e.rto → 0 < (stamp_timed r opening e now t).rto
unfolding stamped
stamped_paced rules.Rfc false e now (Some t) h = h
stamped_paced rules.Rfc false e now None h = h
stamped_paced rules.Rfc true e now t h = h
stamped_paced rules.Smoltcp opening e now t h = h

measured_paced : (v : View) (now : Instant) (s : Emitted) → 0 < v.rtte.rto → 0 < (sending_measured v now s).rto
measured_paced v now s h = stamped_paced v.rules (is_opening v.state) (sent v.rtte now s.end) now s.stamp (sent_paced v.rtte now s.end h)

again_paced : (e : Estimator) → 0 < e.rto → 0 < (retransmitted (backed_off e)).rto
unfolding retransmitted backed_off
again_paced e h = omega (arith, h)

pub fast_paced : (e : Estimator) → 0 < e.rto → 0 < (retransmitted e).rto
unfolding retransmitted
fast_paced e h = h

bounded_paced : (e : Estimator) (n : ℕ) → 0 < e.rto → 0 < (bounded_below e n).rto
unfolding bounded_below
bounded_paced e n h = h

anew_paced : (e : Estimator) → 0 < e.rto → 0 < (begun_anew e).rto
unfolding begun_anew
anew_paced e h = go (is_backed_off e)
  where
    go : (b : Bool) → 0 < (if b then record e { rto = 3000; backoffs = 0 } else e).rto
    go true = omega arith
    go false = h

opened_paced : (b m : Bool) (e : Estimator) → 0 < e.rto → 0 < (if b then begun_anew e else (if m then retransmitted e else e)).rto
opened_paced true m e h = anew_paced e h
opened_paced false true e h = fast_paced e h
opened_paced false false e h = h

-- ---- a segment

module _ (s : Segment) (now : Instant) where
  heard_paced : (u : View) (a : Acked) → IsPaced u → IsPaced (heard u now a s)
  unfolding window_taken released timestamp_taken timer_set duplicate_counted ack_counted una_advanced
  heard_paced u a h = heard_kept IsPaced now s u a h (λ k. h) (λ k. acked_paced u.rtte now k h)

  rows_paced : (word : ℕ) → KeptByRows IsPaced now word s
  unfolding fallen_back syn_received syn_answered options_taken fin_counted
  rows_paced word = record {
    falls = λ v h. h;
    drops = λ v h. h;
    opens = λ v t h. h;
    answers = λ v h. h;
    moves = λ v st h. h;
    counts = λ v st h. h;
    waits = λ v h. h;
  }

  segments_paced : (word : ℕ) → KeptBySegments IsPaced now word s
  unfolding ack_kept close_restarted joined ack_delayed recovered
  segments_paced word = record {
    answers = record { challenges = λ w at h. h; acks = λ w h. h };
    restarts = λ w h. h;
    numbers = λ v n h. h;
    rows = rows_paced word;
    joins = λ w o bs h. h;
    hears = λ u a h. heard_paced u a h;
    recovers = λ v w h i. opened_paced (is_opened (before_of v s) w) (marks (before_of v s) (echo_known (before_of v s) w now)) (echo_known (before_of v s) w now).rtte (echo_paced (is_news (before_of v s) w) (before_of v s).echo w.rtte now i);
  }

-- ---- a dispatch

new_paced : (v : View) → IsPaced (renewed v)
unfolding renewed fresh
new_paced v = omega arith

begins_paced : (now : Instant) → KeptByBeginnings IsPaced now
unfolding retransmission_begun fast_retransmission_marked tail_probed probed_by
begins_paced now = record {
  remembers = λ v h. h;
  tells = λ v h. h;
  times_out = λ v h. h;
  forgets = λ v h. h;
  begins_again = λ v at e h. again_paced v.rtte h;
  marks = λ v e h. fast_paced v.rtte h;
  goes_back = λ v at delay e h. fast_paced v.rtte h;
  probes_tail = λ v at e h. fast_paced v.rtte h;
}

pub readied_paced : (v : View) (now : Instant) → IsPaced v → IsPaced (readied v now)
readied_paced v now h = readied_kept IsPaced now (begins_paced now) v h

sends_paced : (now : Instant) → KeptBySending IsPaced now
unfolding after_any snd_nxt_moved after_probe
sends_paced now = record { renews = λ u h. h; moves = λ u e h. h; times = λ u e h. measured_paced u now e h; probes = λ u h. h; arms = λ u at e h. h }

-- ---- the other calls

module _ (v w : View) (h : IsPaced v) where
  same_paced : ((w ≡ v → ⊥) → ⊥) → IsPaced w
  same_paced n = let e : w.rtte.rto ≡ v.rtte.rto = same_number w.rtte.rto v.rtte.rto (λ d. n (λ e. d (ap (λ (x : View). x.rtte.rto) e))) in omega (arith, e, h)

  setting_paced : Sets v w → IsPaced w
  setting_paced (SetCongestionControl x e) = subst IsPaced (sym e) h
  setting_paced (SetTimeout x e) = subst IsPaced (sym e) h
  setting_paced (SetAckDelay x e) = subst IsPaced (sym e) h
  setting_paced (SetNagle x e) = subst IsPaced (sym e) h
  setting_paced (SetKeepAlive x e) = subst IsPaced (sym e) h
  setting_paced (SetHopLimit x e) = subst IsPaced (sym e) h
  setting_paced (PauseSynAck x e) = subst IsPaced (sym e) h
  setting_paced (SetTsvalGenerator x e) = subst IsPaced (sym e) h
  setting_paced (SetRules x d e) = subst IsPaced (sym e) h
  setting_paced (SetMinRto x e) = subst IsPaced (sym e) (bounded_paced v.rtte x h)

calls_paced : KeptByCalls IsPaced (λ d. Unit {0})
unfolding queued read_off connected listened
calls_paced = record {
  queues = λ v n bs may within h. h;
  reads = λ v n h. h;
  connects = λ v t word small h. new_paced v;
  listens = λ v e h. new_paced v;
  decided = λ v w is n h. same_paced v w h n;
  closes = λ v h. h;
  aborts = λ v h. h;
  sets = λ v w x m h. setting_paced v w h x;
}

kept_paced : Kept (λ at. IsPaced) (λ at. Unit {0}) (λ last now. Unit {0}) (λ d. Unit {0})
unfolding shortened all_sent_again
kept_paced = record {
  later = λ last now v c h. h;
  calls = λ last b. calls_paced;
  segments = λ r now word ip s v small numbered bare h. process_kept IsPaced now word ip s r v (segments_paced (windowed r v s) now word) h;
  beginnings = λ now. begins_paced now;
  resets = λ now v h. new_paced v;
  sendings = λ o f u w out h i. sends_kept IsPaced f (sends_paced (moment_of f)) o u w out h i;
  shortens = λ now v mss le h. h;
  repeats = λ now v e h. fast_paced v.rtte h;
}

pub reached_paced : (v : View) → IsReached v → IsPaced v
unfolding fresh
reached_paced v r = reached_kept IsPaced kept_paced (λ rx tx size. omega arith) v r
