-- What is done of loss behind the tables: whatever it leaves alone.
use Rattle.std.proofs.Common.{◌≡◌, ℕ, Bool, true, false, not, ◌&&◌, refl, sym, ◌∙◌, ap, length, Option, Some}
use Rattle.std.specs.Prelude.{if◌then◌else◌, ◌==◌, nat_le}
use Rattle.std.proofs.lemmas.Bool.{eqb-true}
use Rattle.net_base.specs.declared.time.Duration.{Duration}
use Rattle.net_base.specs.declared.time.Instant.{Instant}
use Rattle.control_wire.specs.Segment.{Segment}
use Rattle.ip_wire.specs.declared.repr.IpRepr.{IpRepr}
use Rattle.sock_tcp.specs.Arrival.{arrival}
use Rattle.sock_tcp.specs.Process.{Outcome, answered, by_verdict, processed_by, tuple_of}
use Rattle.sock_tcp.specs.Replies.{ack_kept, ack_segment, sack_ranges}
use Rattle.sock_tcp.specs.Rfc.Recovery.{before_of, begun_by, echo_known, gone_on_from, has_timer, heard_for, is_called, is_later_partial, is_news, kept_if, left_running, probe_from_last, probe_soonest, recovered, recovered_by, reordering_after, running, soonest, tells_controller, timer_after, waited_for, waits_late, marked_by, waits_tail}
use Rattle.sock_tcp.specs.Due.{flight, window_field}
use Rattle.sock_tcp.proofs.OwnWindow.{field_is}
use Rattle.sock_tcp.specs.Rfc.Reordering.{late_set, late_wait}
use Rattle.sock_tcp.specs.Rfc.TailLoss.{is_alone, tail_from, tail_waits}
use Rattle.sock_core.specs.Estimator.{Estimator}
use Rattle.sock_tcp.specs.Rfc.RoundTrips.{begun_again, is_sample}
use Rattle.sock_tcp.specs.Timers.{after, idle_from, is_over, probe_from, retransmit_from}
use Rattle.sock_tcp.specs.Rfc.Checks.{verdict_by}
use Rattle.sock_tcp.specs.Rfc.Windows.{windowed}
use Rattle.sock_tcp.specs.View.{View}
use Rattle.sock_tcp.specs.declared.process.Answer.{Answer}
use Rattle.sock_tcp.specs.declared.process.Answer.TheVariants as answers
use Rattle.sock_tcp.specs.declared.recovery.Before.{Before}
use Rattle.sock_tcp.specs.declared.rules.Rules.{Rules}
use Rattle.sock_tcp.specs.declared.rules.Rules.TheVariants as rules
use Rattle.sock_tcp.specs.declared.timer.Timer.{Timer}
use Rattle.sock_tcp.specs.declared.timer.Timer.TheVariants as timer
use Rattle.sock_tcp.specs.declared.verdict.Verdict.TheVariants as verdicts

-- an answer is the same before and after it
module _ (b : Before) (u : View) (s : Segment) (now : Instant) where
  abbrev behind : Outcome → Outcome
  behind o = record { view = recovered b o.view now; reply = o.reply }

  same_field : window_field (recovered b u now) ≡ window_field u
  unfolding recovered
  same_field = field_is (recovered b u now) ∙ sym (field_is u)

  kept_view : ack_kept (recovered b u now) ≡ recovered b (ack_kept u) now
  unfolding recovered ack_kept
  kept_view = λ i. record (recovered b (ack_kept u) now) { remote_last_win = same_field i }

  kept_reply : ack_segment (recovered b u now) s ≡ ack_segment u s
  unfolding recovered ack_segment sack_ranges
  kept_reply = λ i. record (ack_segment u s) { window_len = same_field i }

  said : (x : Answer) → answered x (recovered b u now) s ≡ behind (answered x u s)
  unfolding ack_kept
  said answers.Nothing = refl
  said answers.Ack = λ i. record { view = kept_view i; reply = Some (kept_reply i) }
  said answers.Rst = refl

pub said_then : (x : Answer) (b : Before) (v u w : View) (s : Segment) (now : Instant) (o : Outcome) → b ≡ before_of v s → answered x u s ≡ o → w ≡ recovered b u now → answered x w s ≡ recovered_by rules.Rfc v now s o
said_then x b v u w s now o is e h =
    ap (λ y. answered x y s) h ∙ said b u s now x ∙ ap (λ (y : Outcome). record { view = recovered b y.view now; reply = y.reply }) e ∙ ap (λ c. record { view = recovered c o.view now; reply = o.reply }) is

-- ---- by either rules

-- what holds of an outcome, and of one whose socket has recovered as well
pub recovered_as : (Q : Outcome → Type 0) (r : Rules) (v : View) (now : Instant) (s : Segment) (o : Outcome) → Q o → Q (record { view = recovered (before_of v s) o.view now; reply = o.reply }) → Q (recovered_by r v now s o)
recovered_as Q rules.Smoltcp v now s o h k = h
recovered_as Q rules.Rfc v now s o h k = k

-- ---- the timer once the echo is known: as it was, but for when a retransmission is due

again_as : (Q : Timer → Type 0) (sample : Bool) (t : Timer) (now : Instant) (e : Estimator) → ((at : Instant) → Q (timer.Retransmit at) → Q (retransmit_from now e)) → Q t → Q (begun_again sample t now e)
again_as Q true (timer.Retransmit at) now e k h = k at h
again_as Q true (timer.Idle at) now e k h = h
again_as Q true timer.FastRetransmit now e k h = h
again_as Q true (timer.ZeroWindowProbe at delay) now e k h = h
again_as Q true (timer.Close at) now e k h = h
again_as Q false t now e k h = h

pub known_as : (Q : Timer → Type 0) (b : Before) (w : View) (now : Instant) → ((at : Instant) → Q (timer.Retransmit at) → Q (retransmit_from now (echo_known b w now).rtte)) → Q w.timer → Q (echo_known b w now).timer
known_as Q b w now k h = again_as Q (is_sample (is_news b w) b.echo w.rtte) w.timer now (echo_known b w now).rtte k h

-- ---- a segment that passes

pub passes : (o : Outcome) (r : Rules) (v : View) (now : Instant) (word : ℕ) (ip : IpRepr) (s : Segment) → verdict_by r v now s ≡ verdicts.Pass → o ≡ by_verdict r verdicts.Pass v (arrival now (tuple_of ip s) word (windowed r v s)) → o ≡ processed_by r v now word ip s
unfolding processed_by
passes o r v now word ip s p h = h ∙ ap (λ x. by_verdict r x v (arrival now (tuple_of ip s) word (windowed r v s))) (sym p)

-- ---- the timer that is left: as it was, a fast retransmission's, one that went on, a new one, that of a tail-loss probe,
-- or that of keep-alives where it was a probe's; a probe may come sooner, and a loss may be waited for

module _ (Q : Timer → Type 0) (b : Before) (w : View) (now : Instant) (same : Q w.timer) (fast : Q timer.FastRetransmit) (kept : (at : Instant) → b.timer ≡ timer.Retransmit at → Q (timer.Retransmit at)) (new : Q (retransmit_from now w.rtte)) (tail : Q (tail_from now w.rtte (is_alone w))) (idle : (at : Instant) (delay : Duration) → w.timer ≡ timer.ZeroWindowProbe at delay → Q (idle_from now w.keep_alive)) (soon : (at : Instant) (delay : Duration) → Q (timer.ZeroWindowProbe at delay) → Q (timer.ZeroWindowProbe (soonest w.idle_at at) delay)) (late : Q (timer.Retransmit (after now (late_wait (reordering_after b w) w.rtte)))) where
  goes : (t : Timer) → b.timer ≡ t → Q (gone_on_from t now w.rtte)
  goes (timer.Retransmit at) e = kept at e
  goes (timer.Idle at) e = new
  goes timer.FastRetransmit e = new
  goes (timer.ZeroWindowProbe at delay) e = new
  goes (timer.Close at) e = new

  runs : (t : Timer) → w.timer ≡ t → Q t → Q (running t (flight w) (length w.tx_buffer.bytes) w.keep_alive w.rtte now)
  runs (timer.Idle at) e h = by (flight w == 0)
    where
      by : (z : Bool) → Q (if z then timer.Idle at else retransmit_from now w.rtte)
      by true = h
      by false = new
  runs (timer.ZeroWindowProbe at delay) e h = by (nat_le (length w.tx_buffer.bytes) (flight w)) (flight w == 0)
    where
      by : (y z : Bool) → Q (if y then (if z then idle_from now w.keep_alive else retransmit_from now w.rtte) else timer.ZeroWindowProbe at delay)
      by true true = idle at delay e
      by true false = new
      by false z = h
  runs (timer.Retransmit at) e h = h
  runs timer.FastRetransmit e h = h
  runs (timer.Close at) e h = h

  -- that of a probe in place of it
  probes : (b : Bool) (t : Timer) → Q t → Q (tail_waits b t now w.rtte (is_alone w))
  probes true (timer.Retransmit at) h = tail
  probes true (timer.Idle at) h = h
  probes true timer.FastRetransmit h = h
  probes true (timer.ZeroWindowProbe at delay) h = h
  probes true (timer.Close at) h = h
  probes false t h = h

  -- or as it was
  keeps : (p : Bool) (u t : Timer) → b.timer ≡ u → Q t → Q (kept_if p u t)
  keeps true (timer.Retransmit at) (timer.Retransmit next) e h = kept at e
  keeps true (timer.Retransmit at) (timer.Idle next) e h = h
  keeps true (timer.Retransmit at) timer.FastRetransmit e h = h
  keeps true (timer.Retransmit at) (timer.ZeroWindowProbe next delay) e h = h
  keeps true (timer.Retransmit at) (timer.Close next) e h = h
  keeps true (timer.Idle at) t e h = h
  keeps true timer.FastRetransmit t e h = h
  keeps true (timer.ZeroWindowProbe at delay) t e h = h
  keeps true (timer.Close at) t e h = h
  keeps false u t e h = h

  -- or a probe that comes sooner
  comes : (t : Timer) → Q t → Q (probe_soonest w.idle_at t)
  comes (timer.ZeroWindowProbe at delay) h = soon at delay h
  comes (timer.Idle at) h = h
  comes (timer.Retransmit at) h = h
  comes timer.FastRetransmit h = h
  comes (timer.Close at) h = h

  begins : (u t : Timer) → Q t → Q (probe_from_last u w.idle_at t)
  begins (timer.ZeroWindowProbe at delay) t h = h
  begins (timer.Idle at) t h = comes t h
  begins (timer.Retransmit at) t h = comes t h
  begins timer.FastRetransmit t h = comes t h
  begins (timer.Close at) t h = comes t h

  -- or a loss is waited for
  waits : (c : Bool) (t : Timer) → Q t → Q (late_set c t now (late_wait (reordering_after b w) w.rtte))
  waits true (timer.Retransmit at) h = by (is_over at (after now (late_wait (reordering_after b w) w.rtte)))
    where
      by : (o : Bool) → Q (timer.Retransmit (if o then at else after now (late_wait (reordering_after b w) w.rtte)))
      by true = h
      by false = late
  waits true (timer.Idle at) h = h
  waits true timer.FastRetransmit h = h
  waits true (timer.ZeroWindowProbe at delay) h = h
  waits true (timer.Close at) h = h
  waits false t h = h

  pub waited_as : Q (waited_for b w now)
  waited_as = waits (waits_late b w) (heard_for b w now) (by (tells_controller b w) (is_called b w))
    where
      by : (r c : Bool) → Q (if r then timer.FastRetransmit else (if c then gone_on_from b.timer now w.rtte else tail_waits (waits_tail b w) (left_running b w now) now w.rtte (is_alone w)))
      by true c = fast
      by false true = goes b.timer refl
      by false false = probes (waits_tail b w) (left_running b w now) (begins b.timer _ (keeps (is_later_partial b w) b.timer _ refl (runs w.timer refl same)))

  pub timer_as : Q (timer_after b w now)
  timer_as = by (has_timer w.state)
    where
      by : (h : Bool) → Q (if h then waited_for b w now else w.timer)
      by true = waited_as
      by false = same

-- the timer that is left once that of a retransmission is over: a probe's, without a window and with bytes, or an idle one
pub begun_as : (Q : Timer → Type 0) (r : Rules) (window queued : ℕ) (now : Instant) (keep : Option Duration) (e : Estimator) → Q (idle_from now keep) → (window ≡ 0 → (queued == 0) ≡ false → Q (probe_from now e)) → Q (begun_by r window queued now keep e)
begun_as Q rules.Smoltcp window queued now keep e idle probe = idle
begun_as Q rules.Rfc window queued now keep e idle probe = by (window == 0) refl (queued == 0) refl
  where
    by : (y : Bool) → (window == 0) ≡ y → (z : Bool) → (queued == 0) ≡ z → Q (if y && not z then probe_from now e else idle_from now keep)
    by true n false i = probe (eqb-true window 0 n) i
    by true n true i = idle
    by false n z i = idle

-- and once a fast retransmission is due: an idle one, or that of a retransmission
pub marked_as : (Q : Timer → Type 0) (r : Rules) (now : Instant) (keep : Option Duration) (e : Estimator) → Q (idle_from now keep) → Q (retransmit_from now e) → Q (marked_by r now keep e)
marked_as Q rules.Smoltcp now keep e idle runs = idle
marked_as Q rules.Rfc now keep e idle runs = runs
