-- Any call keeps two facts: a probe timer runs only while the peer has no window, and its MSS is at least 48.
use Rattle.std.proofs.Common.{◌≡◌, ℕ, ◌≤◌, Bool, true, false, not, ◌&&◌, refl, ap, ◌∙◌, List, length, max, Option, Some, None, arith}
use Rattle.std.specs.Prelude.{if◌then◌else◌, ◌==◌}
use Rattle.std.proofs.lemmas.Bool.{and_parts, eqb-true}
use Rattle.net_base.specs.declared.time.Duration.{Duration}
use Rattle.net_base.specs.declared.time.Instant.{Instant}
use Rattle.control_wire.specs.Segment.{Segment}
use Rattle.sock_core.specs.Estimator.{Estimator, backed_off, retransmitted}
use Rattle.sock_core.specs.Facts.{Facts}
use Rattle.sock_tcp.specs.PathMtu.{all_sent_again, shortened}
use Rattle.sock_tcp.specs.Advance.{fallen_back, fin_counted, mss_taken, options_taken, syn_answered, syn_received}
use Rattle.sock_tcp.specs.Begin.{retransmission_begun, fast_retransmission_marked, before_emit}
use Rattle.sock_tcp.specs.Opening.{connected, listened, renewed}
use Rattle.sock_tcp.specs.Process.{close_restarted, timer_restarted}
use Rattle.sock_tcp.specs.Queues.{first_probe, queued, read_off}
use Rattle.sock_tcp.specs.Replies.{ack_kept}
use Rattle.sock_tcp.specs.Rfc.Recovery.{before_of, echo_known, recovered}
use Rattle.sock_tcp.specs.Rfc.TailLoss.{probed_by, tail_probed}
use Rattle.sock_tcp.specs.Sent.{after_any, after_probe, snd_nxt_moved}
use Rattle.sock_tcp.specs.Settings.{keep_alive_timer}
use Rattle.sock_tcp.specs.Steps.{window_taken, released, ack_heard, duplicate_counted, ack_counted, una_advanced, timestamp_taken, timer_set, timer_acked, probe_ended, probe_set, begins_probe, heard, joined, ack_delayed}
use Rattle.sock_tcp.specs.Timers.{idle_from, is_idle, keep_alive_renewed, probe_doubled, probe_from, retransmit_unless_set}
use Rattle.sock_tcp.specs.Rfc.Windows.{windowed}
use Rattle.sock_tcp.specs.View.{View, fresh, moment_of}
use Rattle.sock_tcp.specs.declared.acked.Acked.{Acked}
use Rattle.sock_tcp.specs.declared.state.State.{State}
use Rattle.sock_tcp.specs.declared.state.State.TheVariants as state
use Rattle.sock_tcp.specs.declared.timer.Timer.{Timer}
use Rattle.sock_tcp.specs.declared.timer.Timer.TheVariants as timer
use Rattle.tcp_laws.specs.Polling.{IsReached}
use Rattle.tcp_laws.specs.SocketRun.{Sets}
use Rattle.sock_tcp.proofs.Recovering.{begun_as, known_as, marked_as, timer_as}
use Rattle.tcp_laws.proofs.Kept.{Kept, KeptByBeginnings, KeptByCalls, KeptByRows, KeptBySegments, KeptBySending, acked_view, before_kept, heard_kept, process_kept, reached_kept, sends_kept, timer_then}
use Rattle.tcp_laws.proofs.SocketSteps.{same_number, setting_leaves}

abbrev pub ProbesIn : Timer → ℕ → Type 0
ProbesIn (timer.ZeroWindowProbe at delay) window = window ≡ 0
ProbesIn t window = Unit {0}

pub record Probing (t : Timer) (win size : ℕ) : Type 0 where
  pub window : ProbesIn t win
  pub mss : 48 ≤ size

abbrev pub IsProbing : View → Type 0
IsProbing v = Probing v.timer v.remote_win_len v.remote_mss

-- ---- timers

no_window : (t : Timer) (window : ℕ) → window ≡ 0 → ProbesIn t window
no_window (timer.ZeroWindowProbe at delay) window e = e
no_window _ window e = tt

idle_probes : (now : Instant) (keep : Option Duration) (window : ℕ) → ProbesIn (idle_from now keep) window
idle_probes now None window = tt
idle_probes now (Some d) window = tt

kept_probes : (x : Option Duration) (t : Timer) (window : ℕ) → ProbesIn t window → ProbesIn (keep_alive_timer x t) window
kept_probes None t window h = h
kept_probes (Some d) (timer.Idle None) window h = tt
kept_probes (Some d) (timer.Idle (Some at)) window h = tt
kept_probes (Some d) (timer.Retransmit at) window h = tt
kept_probes (Some d) timer.FastRetransmit window h = tt
kept_probes (Some d) (timer.ZeroWindowProbe at delay) window h = h
kept_probes (Some d) (timer.Close at) window h = tt

module _ (now : Instant) where
  renewed_probes : (t : Timer) (keep : Option Duration) (window : ℕ) → ProbesIn t window → ProbesIn (keep_alive_renewed t now keep) window
  renewed_probes (timer.Idle at) keep window h = idle_probes now keep window
  renewed_probes (timer.ZeroWindowProbe at delay) keep window h = h
  renewed_probes _ keep window h = tt

  doubled_probes : (t : Timer) (window : ℕ) → ProbesIn t window → ProbesIn (probe_doubled t now) window
  doubled_probes (timer.ZeroWindowProbe at delay) window h = h
  doubled_probes _ window h = tt

  timed_probes : (t : Timer) (e : Estimator) (window : ℕ) → ProbesIn t window → ProbesIn (retransmit_unless_set t now e) window
  timed_probes (timer.Idle at) e window h = tt
  timed_probes (timer.Retransmit at) e window h = tt
  timed_probes timer.FastRetransmit e window h = tt
  timed_probes (timer.ZeroWindowProbe at delay) e window h = tt
  timed_probes (timer.Close at) e window h = tt

  restarted_probes : (st : State) (t : Timer) (window : ℕ) → ProbesIn t window → ProbesIn (timer_restarted st t now) window
  restarted_probes state.TimeWait t window h = tt
  restarted_probes _ t window h = h

  -- a segment's window sets or ends the probes
  set_probes : (t : Timer) (v : View) (a : Acked) → ProbesIn (probe_set t v now a) v.remote_win_len
  set_probes t v a = go (v.remote_win_len == 0) refl
    where
      ends : (t : Timer) → ProbesIn (probe_ended t v now) v.remote_win_len
      ends (timer.ZeroWindowProbe at delay) = idle_probes now v.keep_alive v.remote_win_len
      ends _ = tt

      go : (b : Bool) → (v.remote_win_len == 0) ≡ b → ProbesIn (if b then (if begins_probe t v a then probe_from now v.rtte else t) else probe_ended t v now) v.remote_win_len
      go true e = no_window (if begins_probe t v a then probe_from now v.rtte else t) v.remote_win_len (eqb-true v.remote_win_len 0 e)
      go false e = ends t

-- ---- a segment

mss_kept : (old : ℕ) (o : Option ℕ) → 48 ≤ old → 48 ≤ mss_taken old o
mss_kept old None h = h
mss_kept old (Some n) h = go (n == 0)
  where
    go : (b : Bool) → 48 ≤ (if b then old else max n 48)
    go true = h
    go false = omega arith

module _ (s : Segment) (now : Instant) where
  heard_probing : (u : View) (a : Acked) → IsProbing u → IsProbing (heard u now a s)
  unfolding window_taken released timestamp_taken timer_set duplicate_counted ack_counted una_advanced
  heard_probing u a h = heard_kept IsProbing now s u a (probes x h.mss) (λ k. probes (ack_heard true x now k a.len) h.mss) (λ k. probes (ack_heard false x now k a.len) h.mss)
    where
      x : View
      x = acked_view IsProbing now s u a

      probes : (y : View) → 48 ≤ y.remote_mss → IsProbing (timer_then IsProbing now s u a y)
      probes y mss = let z = timestamp_taken y s in record { window = set_probes now (timer_acked z.timer z now a) z a; mss = mss }

  rows_probing : (word : ℕ) → KeptByRows IsProbing now word s
  unfolding fallen_back syn_received syn_answered options_taken fin_counted
  rows_probing word = record {
    falls = λ v h. h;
    drops = λ v h. h;
    opens = λ v t h. record { window = idle_probes now v.keep_alive v.remote_win_len; mss = mss_kept v.remote_mss s.max_seg_size h.mss };
    answers = λ v h. record { window = h.window; mss = mss_kept v.remote_mss s.max_seg_size h.mss };
    moves = λ v st h. h;
    counts = λ v st h. h;
    waits = λ v h. record { window = tt; mss = h.mss };
  }

  segments_probing : (word : ℕ) → KeptBySegments IsProbing now word s
  unfolding ack_kept close_restarted joined ack_delayed recovered
  segments_probing word = record {
    answers = record { challenges = λ w at h. h; acks = λ w h. h };
    restarts = λ w h. record { window = restarted_probes now w.state w.timer w.remote_win_len h.window; mss = h.mss };
    numbers = λ v n h. h;
    rows = rows_probing word;
    joins = λ w o bs h. h;
    hears = λ u a h. heard_probing u a h;
    recovers = λ v w h i. record { window = timer_as (λ t. ProbesIn t w.remote_win_len) (before_of v s) (echo_known (before_of v s) w now) now (known_as (λ t. ProbesIn t w.remote_win_len) (before_of v s) w now (λ at z. tt) i.window) tt (λ at e. tt) tt tt (λ at delay e. idle_probes now w.keep_alive w.remote_win_len) (λ at delay h. h) tt; mss = i.mss };
  }

-- ---- a dispatch

new_probing : (v : View) → IsProbing (renewed v)
unfolding renewed fresh
new_probing v = record { window = tt; mss = omega arith }

module _ (now : Instant) where
  begins_probing : KeptByBeginnings IsProbing now
  unfolding retransmission_begun fast_retransmission_marked tail_probed probed_by
  begins_probing = record {
    remembers = λ v h. h;
    tells = λ v h. h;
    times_out = λ v h. h;
    forgets = λ v h. h;
    begins_again = λ v at e h. record { window = begun_as (λ t. ProbesIn t v.remote_win_len) v.rules v.remote_win_len (length v.tx_buffer.bytes) now v.keep_alive (retransmitted (backed_off v.rtte)) (idle_probes now v.keep_alive v.remote_win_len) (λ z some. z); mss = h.mss };
    marks = λ v e h. record { window = marked_as (λ t. ProbesIn t v.remote_win_len) v.rules now v.keep_alive (retransmitted v.rtte) (idle_probes now v.keep_alive v.remote_win_len) tt; mss = h.mss };
    goes_back = λ v at delay e h. record { window = h.window; mss = h.mss };
    probes_tail = λ v at e h. record { window = tt; mss = h.mss };
  }

  sends_probing : KeptBySending IsProbing now
  unfolding after_any snd_nxt_moved after_probe
  sends_probing = record {
    renews = λ u h. record { window = renewed_probes now u.timer u.keep_alive u.remote_win_len h.window; mss = h.mss };
    moves = λ u e h. h;
    times = λ u e h. record { window = timed_probes now u.timer u.rtte u.remote_win_len h.window; mss = h.mss };
    probes = λ u h. record { window = doubled_probes now u.timer u.remote_win_len h.window; mss = h.mss };
    arms = λ u at e h. record { window = tt; mss = h.mss };
  }

-- ---- the other calls

queued_probing : (v : View) (n : ℕ) (bs : List ℕ) → IsProbing v → IsProbing (queued v n bs)
unfolding queued
queued_probing v n bs h = record { window = go (not (n == 0) && (v.remote_win_len == 0) && is_idle v.timer) refl; mss = h.mss }
  where
    go : (b : Bool) → (not (n == 0) && (v.remote_win_len == 0) && is_idle v.timer) ≡ b → ProbesIn (if b then first_probe v.rtte else v.timer) v.remote_win_len
    go true e = eqb-true v.remote_win_len 0 (and_parts (not (n == 0)) (v.remote_win_len == 0) (and_parts (not (n == 0) && (v.remote_win_len == 0)) (is_idle v.timer) e).0).1
    go false e = h.window

-- whether a timer is a probe's, with the window
abbrev probe_window : Timer → ℕ → ℕ
probe_window (timer.ZeroWindowProbe at delay) window = window
probe_window _ window = 0

as_number : (t : Timer) (window : ℕ) → ProbesIn t window → probe_window t window ≡ 0
as_number (timer.ZeroWindowProbe at delay) window h = h
as_number (timer.Idle at) window h = refl
as_number (timer.Retransmit at) window h = refl
as_number timer.FastRetransmit window h = refl
as_number (timer.Close at) window h = refl

of_number : (t : Timer) (window : ℕ) → probe_window t window ≡ 0 → ProbesIn t window
of_number (timer.ZeroWindowProbe at delay) window e = e
of_number _ window e = tt

module _ (v w : View) (h : IsProbing v) where
  same_probing : ((w ≡ v → ⊥) → ⊥) → IsProbing w
  same_probing n = record {
    window = of_number w.timer w.remote_win_len (number (λ x. probe_window x.timer x.remote_win_len) ∙ as_number v.timer v.remote_win_len h.window);
    mss = let e = number (λ x. x.remote_mss) in omega (arith, e, h.mss);
  }
    where
      number : (f : View → ℕ) → f w ≡ f v
      number f = same_number (f w) (f v) (λ d. n (λ e. d (ap f e)))

  setting_probing : Sets v w → IsProbing w
  setting_probing = setting_leaves IsProbing v w (λ x. h) (λ x. record { window = kept_probes x v.timer v.remote_win_len h.window; mss = h.mss }) (λ timeout delay nagle hops paused is_there rules estimator. h)

calls_probing : KeptByCalls IsProbing (λ d. Unit {0})
unfolding read_off connected listened
calls_probing = record {
  queues = λ v n bs may within h. queued_probing v n bs h;
  reads = λ v n h. h;
  connects = λ v t word small h. new_probing v;
  listens = λ v e h. new_probing v;
  decided = λ v w is n h. same_probing v w h n;
  closes = λ v h. h;
  aborts = λ v h. h;
  sets = λ v w x m h. setting_probing v w h x;
}

-- ---- any call

pub kept_probing : Kept (λ at. IsProbing) (λ at. Unit {0}) (λ last now. Unit {0}) (λ d. Unit {0})
unfolding shortened all_sent_again
kept_probing = record {
  later = λ last now v c h. h;
  calls = λ last b. calls_probing;
  segments = λ r now word ip s v small numbered bare h. process_kept IsProbing now word ip s r v (segments_probing (windowed r v s) now word) h;
  beginnings = λ now. begins_probing now;
  resets = λ now v h. new_probing v;
  sendings = λ o f u w out h i. sends_kept IsProbing f (sends_probing (moment_of f)) o u w out h i;
  shortens = λ now v mss le h. record { window = h.window; mss = le h.mss };
  repeats = λ now v e h. record { window = tt; mss = h.mss };
}

pub before_probing : (f : Facts) (v : View) → IsProbing v → IsProbing (before_emit v f).view
before_probing f v h = before_kept IsProbing f (begins_probing (moment_of f)) (λ v h. new_probing v) v h

pub reached_probing : (v : View) → IsReached v → IsProbing v
unfolding fresh
reached_probing v r = reached_kept IsProbing kept_probing (λ rx tx size. record { window = tt; mss = omega arith }) v r
