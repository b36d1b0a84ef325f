-- Any call keeps the moments of both timers within a bound of the latest moment told.
use Rattle.std.proofs.Common.{◌≡◌, ℕ, ◌≤◌, Bool, true, false, not, ◌&&◌, refl, sym, ap, subst, ◌∙◌, List, length, Option, Some, None, arith}
use Rattle.std.specs.Prelude.{if◌then◌else◌, ◌==◌, nat_le, pos, ◌≤ℤ◌, ◌*◌}
use Rattle.std.proofs.lemmas.Int.{ints}
use Rattle.std.proofs.lemmas.Bool.{le-leb}
use Rattle.net_base.specs.declared.time.Duration.{Duration}
use Rattle.net_base.specs.declared.time.Instant.{Instant}
use Rattle.control_wire.specs.Segment.{Segment}
use Rattle.control_wire.specs.declared.seq_number.TcpSeqNumber.{TcpSeqNumber}
use Rattle.sock_tcp.specs.PathMtu.{all_sent_again, shortened}
use Rattle.sock_tcp.specs.Advance.{fallen_back, fin_counted, options_taken, syn_answered, syn_received}
use Rattle.sock_tcp.specs.Begin.{retransmission_begun, fast_retransmission_marked}
use Rattle.sock_tcp.specs.Opening.{connected, listened, renewed}
use Rattle.sock_tcp.specs.Process.{close_restarted}
use Rattle.sock_tcp.specs.Queues.{first_probe, queued, read_off}
use Rattle.sock_tcp.specs.Replies.{ack_kept}
use Rattle.sock_tcp.specs.Rfc.Recovery.{before_of, echo_known, is_news, is_opened, marks, recovered, reordering_after}
use Rattle.sock_tcp.specs.Rfc.TailLoss.{is_alone, probed_by, tail_probed, tail_wait}
use Rattle.sock_tcp.specs.Sent.{after_any, after_probe, snd_nxt_moved}
use Rattle.sock_tcp.specs.Settings.{keep_alive_timer}
use Rattle.sock_tcp.specs.Steps.{is_duplicate, is_window_changed, window_taken, released, ack_heard, duplicate_counted, ack_counted, una_advanced, acknowledged, timestamp_taken, timer_set, timer_acked, heard, joined, ack_delayed}
use Rattle.sock_tcp.specs.Timers.{after, is_idle}
use Rattle.sock_tcp.specs.Rfc.Windows.{windowed}
use Rattle.sock_tcp.specs.View.{View, fresh, moment_of}
use Rattle.sock_tcp.specs.declared.acked.Acked.{Acked}
use Rattle.sock_tcp.specs.declared.timer.Timer.{Timer}
use Rattle.sock_tcp.specs.declared.timer.Timer.TheVariants as timer
use Rattle.tcp_laws.specs.Clocks.{IsAtMost, interval_set}
use Rattle.tcp_laws.specs.SocketRun.{Sets}
use Rattle.tcp_laws.specs.SocketRun.{SetCongestionControl, SetTimeout, SetAckDelay, SetNagle, SetKeepAlive, SetHopLimit, PauseSynAck, SetTsvalGenerator, SetRules, SetMinRto}
use Rattle.sock_core.specs.Estimator.{backed_off, retransmitted}
use Rattle.sock_tcp.proofs.Recovering.{known_as, begun_as, marked_as, timer_as}
use Rattle.tcp_laws.proofs.Kept.{Kept, KeptByBeginnings, KeptByCalls, KeptByRows, KeptBySegments, KeptBySending, process_kept, sends_kept}
use Rattle.tcp_laws.proofs.SocketSteps.{same_number}
use Rattle.tcp_laws.proofs.OrderedCalls.{same_flag}
use Rattle.tcp_laws.proofs.Moments.{IsTimed, acked_by, acked_short, again_short, and_true, bounded_short, close_by, delayed_by, doubled_by, fast_short, heard_short, idle_by, is_by, is_delay_by, is_moment_by, is_short, is_timer_by, late_by, later_timed, measured_short, opened_short, probe_by, probe_soonest_by, renewed_by, restarted_by, rto_by, sent_by, set_by, sooner_by, tail_by, timed_by}

module _ (most : Duration) (minute : 60000000 ≤ most.micros) where
  -- ---- a segment

  module _ (s : Segment) (now : Instant) where
    delayed_timed : (w : View) (o : ℕ) (bs : List ℕ) → IsTimed now most w → IsTimed now most (ack_delayed (joined w o bs) now)
    unfolding joined ack_delayed
    delayed_timed w o bs h = record { timer = h.timer; waits = delayed_by most minute now w.ack_delay (joined w o bs) h.delay_short h.waits; timeout = h.timeout; keep_short = h.keep_short; delay_short = h.delay_short; idle = h.idle }

    -- a timer that is set at the end
    set_timed : (y : View) (a : Acked) → IsTimed now most y → IsTimed now most (timer_set (timestamp_taken y s) now a)
    unfolding timer_set timestamp_taken
    set_timed y a h = record { timer = set_by most minute now (timer_acked y.timer (timestamp_taken y s) now a) (timestamp_taken y s) a h.keep_short h.timeout (acked_by most minute now y.timer (timestamp_taken y s) a h.keep_short h.timeout h.timer); waits = h.waits; timeout = h.timeout; keep_short = h.keep_short; delay_short = h.delay_short; idle = h.idle }

    counted_timed : (x : View) (o : Option TcpSeqNumber) (n payload : ℕ) (changed : Bool) → IsTimed now most x → IsTimed now most (acknowledged x o now n payload changed)
    unfolding acknowledged duplicate_counted ack_counted una_advanced
    counted_timed x None n payload changed h = h
    counted_timed x (Some k) n payload changed h = go (is_duplicate x k payload changed)
      where
        third : (b : Bool) → is_timer_by now most (if b then timer.FastRetransmit else x.timer) ≡ true
        third true = refl
        third false = h.timer

        go : (b : Bool) → IsTimed now most (ack_heard b x now k n)
        go true = record { timer = third (x.local_rx_dup_acks == 2); waits = h.waits; timeout = h.timeout; keep_short = h.keep_short; delay_short = h.delay_short; idle = h.idle }
        go false = record { timer = h.timer; waits = h.waits; timeout = acked_short x.rtte now k h.timeout; keep_short = h.keep_short; delay_short = h.delay_short; idle = h.idle }

    window_timed : (u : View) (n : ℕ) → IsTimed now most u → IsTimed now most (released (window_taken u now s.control s.window_len) n)
    unfolding window_taken released
    window_timed u n h = h

    heard_timed : (u : View) (a : Acked) → IsTimed now most u → IsTimed now most (heard u now a s)
    unfolding heard
    heard_timed u a h = set_timed _ a (counted_timed (released (window_taken u now s.control s.window_len) a.len) s.ack_number a.len (length s.payload) (is_window_changed u s.control s.window_len) (window_timed u a.len h))

    rows_timed : (word : ℕ) → KeptByRows (IsTimed now most) now word s
    unfolding fallen_back syn_received syn_answered options_taken fin_counted
    rows_timed word = record {
      falls = λ v h. h;
      drops = λ v h. h;
      opens = λ v t h. record { timer = idle_by most minute now v.keep_alive h.keep_short; waits = h.waits; timeout = h.timeout; keep_short = h.keep_short; delay_short = h.delay_short; idle = h.idle };
      answers = λ v h. h;
      moves = λ v st h. h;
      counts = λ v st h. h;
      waits = λ v h. record { timer = close_by most minute now; waits = h.waits; timeout = h.timeout; keep_short = h.keep_short; delay_short = h.delay_short; idle = h.idle };
    }

    segments_timed : (word : ℕ) → KeptBySegments (IsTimed now most) now word s
    unfolding ack_kept close_restarted recovered before_of
    segments_timed word = record {
      answers = record { challenges = λ w at h. h; acks = λ w h. h };
      restarts = λ w h. record { timer = restarted_by most minute now w.state w.timer h.timer; waits = h.waits; timeout = h.timeout; keep_short = h.keep_short; delay_short = h.delay_short; idle = h.idle };
      numbers = λ v n h. h;
      rows = rows_timed word;
      joins = λ w o bs h. delayed_timed w o bs h;
      hears = λ u a h. heard_timed u a h;
      recovers = λ v w h i.
          let u : View = echo_known (before_of v s) w now in
          let short : u.rtte.rto ≤ 60000 = heard_short (is_news (before_of v s) w) (before_of v s).echo w.rtte now i.timeout in
          let known : is_timer_by now most u.timer ≡ true = known_as (λ t. is_timer_by now most t ≡ true) (before_of v s) w now (λ at e. rto_by most minute now u.rtte short) i.timer in
          record { timer = timer_as (λ t. is_timer_by now most t ≡ true) (before_of v s) u now known refl (λ at e. sym (ap (is_timer_by now most) e) ∙ h.timer) (rto_by most minute now u.rtte short) (tail_by most minute now u.rtte (is_alone u) short) (λ at delay e. idle_by most minute now w.keep_alive i.keep_short) (λ at delay h. probe_soonest_by most minute now w.idle_at at delay i.idle h) (late_by most minute now (reordering_after (before_of v s) u) u.rtte short); waits = i.waits; timeout = opened_short (is_opened (before_of v s) u) (marks (before_of v s) u) u.rtte short; keep_short = i.keep_short; delay_short = i.delay_short; idle = i.idle };
    }

  -- ---- a reset

  renewed_timed : (last : Instant) (v : View) → IsTimed last most v → IsTimed last most (renewed v)
  unfolding renewed fresh
  renewed_timed last v h = record { timer = refl; waits = refl; timeout = omega arith; keep_short = h.keep_short; delay_short = h.delay_short; idle = refl }

  -- ---- a dispatch

  module _ (now : Instant) where
    begins_timed : KeptByBeginnings (IsTimed now most) now
    unfolding retransmission_begun fast_retransmission_marked tail_probed probed_by
    begins_timed = record {
      remembers = λ v h. h;
      tells = λ v h. h;
      times_out = λ v h. h;
      forgets = λ v h. h;
      begins_again = λ v at e h. record { timer = begun_as (λ t. is_timer_by now most t ≡ true) v.rules v.remote_win_len (length v.tx_buffer.bytes) now v.keep_alive (retransmitted (backed_off v.rtte)) (idle_by most minute now v.keep_alive h.keep_short) (λ z some. probe_by most minute now (retransmitted (backed_off v.rtte)) (again_short v.rtte h.timeout)); waits = h.waits; timeout = again_short v.rtte h.timeout; keep_short = h.keep_short; delay_short = h.delay_short; idle = h.idle };
      marks = λ v e h. record { timer = marked_as (λ t. is_timer_by now most t ≡ true) v.rules now v.keep_alive (retransmitted v.rtte) (idle_by most minute now v.keep_alive h.keep_short) (rto_by most minute now (retransmitted v.rtte) (fast_short v.rtte h.timeout)); waits = h.waits; timeout = fast_short v.rtte h.timeout; keep_short = h.keep_short; delay_short = h.delay_short; idle = h.idle };
      goes_back = λ v at delay e h. record { timer = h.timer; waits = h.waits; timeout = fast_short v.rtte h.timeout; keep_short = h.keep_short; delay_short = h.delay_short; idle = h.idle };
      probes_tail = λ v at e h. record { timer = rto_by most minute now (retransmitted v.rtte) (fast_short v.rtte h.timeout); waits = h.waits; timeout = fast_short v.rtte h.timeout; keep_short = h.keep_short; delay_short = h.delay_short; idle = h.idle };
    }

    sends_timed : KeptBySending (IsTimed now most) now
    unfolding after_any snd_nxt_moved after_probe
    sends_timed = record {
      renews = λ u h. record { timer = renewed_by most minute now u.timer u.keep_alive h.keep_short h.timer; waits = refl; timeout = h.timeout; keep_short = h.keep_short; delay_short = h.delay_short; idle = h.idle };
      moves = λ u e h. h;
      times = λ u e h. record { timer = timed_by most minute now u.timer u.rtte h.timeout h.timer; waits = h.waits; timeout = measured_short u now e h.timeout; keep_short = h.keep_short; delay_short = h.delay_short; idle = sent_by most minute now u.rules u.idle_at u.rtte h.timeout h.idle };
      probes = λ u h. record { timer = doubled_by most minute now u.timer h.timer; waits = h.waits; timeout = h.timeout; keep_short = h.keep_short; delay_short = h.delay_short; idle = h.idle };
      arms = λ u at e h. record { timer = sooner_by most minute now at (after now (tail_wait u.rtte (is_alone u))) (subst (λ t. is_timer_by now most t ≡ true) e h.timer) (tail_by most minute now u.rtte (is_alone u) h.timeout); waits = h.waits; timeout = h.timeout; keep_short = h.keep_short; delay_short = h.delay_short; idle = h.idle };
    }

  -- ---- the other calls

  module _ (last : Instant) (from_zero : pos 0 ≤ℤ last.micros) where
    abbrev Now : View → Type 0
    Now v = IsTimed last most v

    since_zero : (n : ℕ) → n ≤ most.micros → is_by last most (record { micros = pos n }) ≡ true
    since_zero n h = grind (arith, ints)

    queued_timed : (v : View) (n : ℕ) (bs : List ℕ) → Now v → Now (queued v n bs)
    unfolding queued
    queued_timed v n bs h = record { timer = go (not (n == 0) && (v.remote_win_len == 0) && is_idle v.timer); waits = h.waits; timeout = h.timeout; keep_short = h.keep_short; delay_short = h.delay_short; idle = h.idle }
      where
        go : (b : Bool) → is_timer_by last most (if b then first_probe v.rtte else v.timer) ≡ true
        go true = and_true (is_by last most (record { micros = pos (v.rtte.rto * 1000) })) (nat_le (v.rtte.rto * 1000) 60000000) (since_zero (v.rtte.rto * 1000) (omega (arith, h.timeout, minute))) (le-leb (v.rtte.rto * 1000) 60000000 (omega (arith, h.timeout)))
        go false = h.timer

    kept_by : (x : Option Duration) (t : Timer) → is_timer_by last most t ≡ true → is_timer_by last most (keep_alive_timer x t) ≡ true
    kept_by None t h = h
    kept_by (Some d) (timer.Idle None) h = since_zero 0 (omega arith)
    kept_by (Some d) (timer.Idle (Some at)) h = h
    kept_by (Some d) (timer.Retransmit at) h = h
    kept_by (Some d) timer.FastRetransmit h = h
    kept_by (Some d) (timer.ZeroWindowProbe at delay) h = h
    kept_by (Some d) (timer.Close at) h = h

    short_is : (x : Option Duration) → IsAtMost x most → is_short last most x ≡ true
    short_is None h = refl
    short_is (Some d) h = le-leb d.micros most.micros (h d refl)

    module _ (v w : View) (h : Now v) where
      -- what is asked in LISTEN can be decided
      same_timed : ((w ≡ v → ⊥) → ⊥) → Now w
      same_timed n = record {
        timer = flag (λ x. is_timer_by last most x.timer) ∙ h.timer;
        waits = flag (λ x. is_delay_by last most x.ack_delay_timer) ∙ h.waits;
        timeout = let e = same_number w.rtte.rto v.rtte.rto (λ d. n (λ e. d (ap (λ (x : View). x.rtte.rto) e))) in omega (arith, e, h.timeout);
        keep_short = flag (λ x. is_short last most x.keep_alive) ∙ h.keep_short;
        delay_short = flag (λ x. is_short last most x.ack_delay) ∙ h.delay_short;
        idle = flag (λ x. is_moment_by last most x.idle_at) ∙ h.idle;
      }
        where
          flag : (f : View → Bool) → f w ≡ f v
          flag f = same_flag (f w) (f v) (λ d. n (λ e. d (ap f e)))

      setting_timed : (x : Sets v w) → IsAtMost (interval_set x) most → Now w
      setting_timed (SetCongestionControl x e) m = subst Now (sym e) h
      setting_timed (SetTimeout x e) m = subst Now (sym e) h
      setting_timed (SetAckDelay x e) m = subst Now (sym e) (record { timer = h.timer; waits = h.waits; timeout = h.timeout; keep_short = h.keep_short; delay_short = short_is x m; idle = h.idle })
      setting_timed (SetNagle x e) m = subst Now (sym e) h
      setting_timed (SetKeepAlive x e) m = subst Now (sym e) (record { timer = kept_by x v.timer h.timer; waits = h.waits; timeout = h.timeout; keep_short = short_is x m; delay_short = h.delay_short; idle = h.idle })
      setting_timed (SetHopLimit x e) m = subst Now (sym e) h
      setting_timed (PauseSynAck x e) m = subst Now (sym e) h
      setting_timed (SetTsvalGenerator x e) m = subst Now (sym e) h
      setting_timed (SetRules x d e) m = subst Now (sym e) h
      setting_timed (SetMinRto x e) m = subst Now (sym e) (record { timer = h.timer; waits = h.waits; timeout = bounded_short v.rtte x h.timeout; keep_short = h.keep_short; delay_short = h.delay_short; idle = h.idle })

    calls_timed : KeptByCalls Now (λ d. IsAtMost d most)
    unfolding read_off connected listened
    calls_timed = record {
      queues = λ v n bs may within h. queued_timed v n bs h;
      reads = λ v n h. h;
      connects = λ v t word small h. renewed_timed last v h;
      listens = λ v e h. renewed_timed last v h;
      decided = λ v w is n h. same_timed v w h n;
      closes = λ v h. h;
      aborts = λ v h. h;
      sets = λ v w x m h. setting_timed v w h x m;
    }

  -- ---- any call

  pub kept_timed : Kept (λ last. IsTimed last most) (λ last. pos 0 ≤ℤ last.micros) (λ last now. last.micros ≤ℤ now.micros) (λ d. IsAtMost d most)
  unfolding shortened all_sent_again
  kept_timed = record {
    later = λ last now v c h. later_timed last now most v c h;
    calls = λ last z. calls_timed last z;
    segments = λ r now word ip s v small numbered bare h. process_kept (IsTimed now most) now word ip s r v (segments_timed (windowed r v s) now word) h;
    beginnings = λ now. begins_timed now;
    resets = λ now v h. renewed_timed now v h;
    sendings = λ o f u w out h i. sends_kept (IsTimed (moment_of f) most) f (sends_timed (moment_of f)) o u w out h i;
    shortens = λ now v mss le h. h;
    repeats = λ now v e h. record { timer = rto_by most minute now (retransmitted v.rtte) (fast_short v.rtte h.timeout); waits = h.waits; timeout = fast_short v.rtte h.timeout; keep_short = h.keep_short; delay_short = h.delay_short; idle = h.idle };
  }
