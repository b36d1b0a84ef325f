-- Any call keeps the order of SND.UNA, SND.NXT, the transmit queue and the timer.
use Rattle.std.proofs.Common.{◌≡◌, ℕ, ◌+◌, ◌<◌, ◌≤◌, ◌^◌, Bool, true, false, true≢false, not, ◌&&◌, refl, sym, ap, subst, ◌∙◌, List, length, take, Option, Some, None, is_none, arith, length-append, length-take}
use Rattle.std.specs.Prelude.{if◌then◌else◌, ◌==◌}
use Rattle.std.proofs.lemmas.Bool.{eq-eqb}
use Rattle.ip_wire.specs.declared.endpoint.IpListenEndpoint.{IpListenEndpoint}
use Rattle.net_base.specs.Ring.{Ring}
use Rattle.net_base.specs.declared.time.Duration.{Duration}
use Rattle.net_base.specs.declared.time.Instant.{Instant}
use Rattle.control_wire.specs.Seq.{seq_sub}
use Rattle.sock_core.specs.Estimator.{Estimator, backed_off, retransmitted}
use Rattle.sock_core.specs.Facts.{Facts}
use Rattle.sock_core.specs.Received.{receiving}
use Rattle.sock_core.specs.declared.congestion.AnyController.{AnyController}
use Rattle.sock_core.specs.declared.congestion.AnyController.TheVariants as controller
use Rattle.sock_tcp.specs.Content.{carries_data}
use Rattle.sock_tcp.specs.PathMtu.{all_sent_again, shortened}
use Rattle.sock_tcp.specs.Begin.{readied, retransmission_begun, fast_retransmission_marked, after_timers, before_emit}
use Rattle.sock_tcp.specs.Closing.{closed, waits_in}
use Rattle.sock_tcp.specs.Due.{flight}
use Rattle.sock_tcp.specs.Opening.{connected, is_listening, listened, renewed}
use Rattle.sock_tcp.specs.Queue.{capacity, queue_of}
use Rattle.sock_tcp.specs.Queues.{first_probe, may_send, queued, read_off}
use Rattle.sock_tcp.specs.Settings.{keep_alive_timer}
use Rattle.tcp_laws.specs.SocketRun.{Sets}
use Rattle.sock_tcp.proofs.Late.{called_as}
use Rattle.sock_tcp.proofs.Recovering.{begun_as, marked_as}
use Rattle.sock_tcp.specs.Rfc.Recovery.{begun_by}
use Rattle.sock_tcp.specs.Rfc.Reordering.{is_late}
use Rattle.sock_tcp.specs.Rfc.TailLoss.{controller_lost_if, probed_by, tail_probed}
use Rattle.sock_tcp.specs.Timers.{idle_from, is_idle, probe_from, retransmit_from}
use Rattle.sock_tcp.specs.declared.rules.Rules.{Rules}
use Rattle.sock_tcp.specs.View.{View, fresh, moment_of}
use Rattle.tcp_laws.specs.Polling.{IsReached}
use Rattle.sock_tcp.specs.declared.settings.CongestionControl.TheVariants as kinds
use Rattle.sock_tcp.specs.declared.state.State.{State}
use Rattle.sock_tcp.specs.declared.state.State.TheVariants as state
use Rattle.sock_tcp.specs.declared.timer.Timer.{Timer}
use Rattle.sock_tcp.specs.declared.timer.Timer.TheVariants as timer
use Rattle.sock_tcp.specs.declared.tuple.Tuple.{Tuple}
use Rattle.tcp_laws.proofs.Kept.{Kept, KeptByBeginnings, KeptByCalls, before_kept, listening_is, readied_kept, reached_kept, timers_kept}
use Rattle.tcp_laws.proofs.Ordered.{HasMoment, IsOpen, IsOpening, IsOrdered, IsPeeredIn, Row, closed_row, idle_has_moment, is_close, kind_open, lost_open, no_distance, pre_transmitted_open, shortened_open, timed_out_open}
use Rattle.tcp_laws.proofs.OrderedSegments.{process_ordered}
use Rattle.tcp_laws.proofs.OrderedSendings.{sends_ordered}
use Rattle.tcp_laws.proofs.SocketSteps.{same_number, setting_leaves}

-- ---- a socket that is reset

renewed_ordered : (v : View) → capacity v.tx_buffer ≤ 2 ^ 30 → IsOrdered (renewed v)
unfolding renewed fresh
renewed_ordered v room = record { una_small = omega arith; nxt_small = omega arith; room = omega (arith, room); congestion = kind_open _; peered = tt; row = tt }

listened_ordered : (v : View) (e : IpListenEndpoint) → capacity v.tx_buffer ≤ 2 ^ 30 → IsOrdered (listened v e)
unfolding listened renewed fresh
listened_ordered v e room = record { una_small = omega arith; nxt_small = omega arith; room = omega (arith, room); congestion = kind_open _; peered = refl; row = refl }

connected_ordered : (v : View) (t : Tuple) (word : ℕ) → word < 2 ^ 32 → capacity v.tx_buffer ≤ 2 ^ 30 → IsOrdered (connected v t word)
unfolding connected renewed fresh
connected_ordered v t word small room = record { una_small = small; nxt_small = small; room = omega (arith, room); congestion = kind_open _; peered = refl; row = (omega (arith, small), refl) }

-- ---- how a dispatch begins

-- SND.NXT goes back to SND.UNA, and the timer is idle
again_row : (st : State) (t : Instant) (keep : Option Duration) (now : Instant) (flight n : ℕ) → Row st (timer.Retransmit t) keep flight n → Row st (idle_from now keep) keep 0 n
again_row state.Closed t keep now flight n r = tt
again_row state.Listen t keep now flight n r = r
again_row state.SynSent t keep now flight n r = (by keep, r.1)
  where
    by : (k : Option Duration) → IsOpening (idle_from now k) 0
    by None = refl
    by (Some d) = refl
again_row state.SynReceived t keep now flight n r = (idle_has_moment now keep, r.1, omega arith)
again_row state.Established t keep now flight n r = (idle_has_moment now keep, omega arith)
again_row state.CloseWait t keep now flight n r = (idle_has_moment now keep, omega arith)
again_row state.FinWait1 t keep now flight n r = (idle_has_moment now keep, omega arith)
again_row state.Closing t keep now flight n r = (idle_has_moment now keep, omega arith)
again_row state.LastAck t keep now flight n r = (idle_has_moment now keep, omega arith)
again_row state.FinWait2 t keep now flight n r = (idle_has_moment now keep, r.1, refl)
again_row state.TimeWait t keep now flight n r = absurd cc

-- or that of probes
probe_row : (st : State) (keep : Option Duration) (now : Instant) (e : Estimator) (flight n : ℕ) → (n == 0) ≡ false → Row st (idle_from now keep) keep flight n → Row st (probe_from now e) keep flight n
probe_row state.Closed keep now e flight n some r = tt
probe_row state.Listen keep now e flight n some r = r
probe_row state.SynSent keep now e flight n some r = absurd (true≢false (sym (eq-eqb n 0 r.1) ∙ some))
probe_row state.SynReceived keep now e flight n some r = (tt, r.1, r.2)
probe_row state.Established keep now e flight n some r = (tt, r.1)
probe_row state.CloseWait keep now e flight n some r = (tt, r.1)
probe_row state.FinWait1 keep now e flight n some r = (tt, r.1)
probe_row state.Closing keep now e flight n some r = (tt, r.1)
probe_row state.LastAck keep now e flight n some r = (tt, r.1)
probe_row state.FinWait2 keep now e flight n some r = (tt, r.1, r.2)
probe_row state.TimeWait None now e flight n some r = absurd (true≢false (sym r.0))
probe_row state.TimeWait (Some d) now e flight n some r = absurd (true≢false (sym r.0))

begun_row : (rs : Rules) (window : ℕ) (st : State) (keep : Option Duration) (now : Instant) (e : Estimator) (flight n : ℕ) → Row st (idle_from now keep) keep flight n → Row st (begun_by rs window n now keep e) keep flight n
begun_row rs window st keep now e flight n r = begun_as (λ t. Row st t keep flight n) rs window n now keep e r (λ z some. probe_row st keep now e flight n some r)

-- the timer alone is idle
fast_row : (st : State) (keep : Option Duration) (now : Instant) (flight n : ℕ) → Row st timer.FastRetransmit keep flight n → Row st (idle_from now keep) keep flight n
fast_row state.Closed keep now flight n r = tt
fast_row state.Listen keep now flight n r = r
fast_row state.SynSent keep now flight n r = absurd r.0
fast_row state.SynReceived keep now flight n r = (idle_has_moment now keep, r.1, r.2)
fast_row state.Established keep now flight n r = (idle_has_moment now keep, r.1)
fast_row state.CloseWait keep now flight n r = (idle_has_moment now keep, r.1)
fast_row state.FinWait1 keep now flight n r = (idle_has_moment now keep, r.1)
fast_row state.Closing keep now flight n r = (idle_has_moment now keep, r.1)
fast_row state.LastAck keep now flight n r = (idle_has_moment now keep, r.1)
fast_row state.FinWait2 keep now flight n r = (idle_has_moment now keep, r.1, r.2)
fast_row state.TimeWait keep now flight n r = absurd cc

-- SND.NXT goes back, and the timer of probes stays
back_row : (st : State) (at : Instant) (delay : Duration) (keep : Option Duration) (flight n : ℕ) → Row st (timer.ZeroWindowProbe at delay) keep flight n → Row st (timer.ZeroWindowProbe at delay) keep 0 n
back_row state.Closed at delay keep flight n r = tt
back_row state.Listen at delay keep flight n r = r
back_row state.SynSent at delay keep flight n r = absurd r.0
back_row state.SynReceived at delay keep flight n r = (tt, r.1, omega arith)
back_row state.Established at delay keep flight n r = (tt, omega arith)
back_row state.CloseWait at delay keep flight n r = (tt, omega arith)
back_row state.FinWait1 at delay keep flight n r = (tt, omega arith)
back_row state.Closing at delay keep flight n r = (tt, omega arith)
back_row state.LastAck at delay keep flight n r = (tt, omega arith)
back_row state.FinWait2 at delay keep flight n r = (tt, r.1, refl)
back_row state.TimeWait at delay keep flight n r = absurd cc

-- or it waits for a retransmission
timed_row : (st : State) (now : Instant) (e : Estimator) (keep : Option Duration) (flight n : ℕ) → Row st timer.FastRetransmit keep flight n → Row st (retransmit_from now e) keep flight n
timed_row state.Closed now e keep flight n r = tt
timed_row state.Listen now e keep flight n r = r
timed_row state.SynSent now e keep flight n r = absurd r.0
timed_row state.SynReceived now e keep flight n r = r
timed_row state.Established now e keep flight n r = r
timed_row state.CloseWait now e keep flight n r = r
timed_row state.FinWait1 now e keep flight n r = r
timed_row state.Closing now e keep flight n r = r
timed_row state.LastAck now e keep flight n r = r
timed_row state.FinWait2 now e keep flight n r = r
timed_row state.TimeWait now e keep flight n r = absurd cc

-- as it did before, until another moment
later_row : (st : State) (at now : Instant) (e : Estimator) (keep : Option Duration) (flight n : ℕ) → Row st (timer.Retransmit at) keep flight n → Row st (retransmit_from now e) keep flight n
later_row state.Closed at now e keep flight n r = tt
later_row state.Listen at now e keep flight n r = r
later_row state.SynSent at now e keep flight n r = r
later_row state.SynReceived at now e keep flight n r = r
later_row state.Established at now e keep flight n r = r
later_row state.CloseWait at now e keep flight n r = r
later_row state.FinWait1 at now e keep flight n r = r
later_row state.Closing at now e keep flight n r = r
later_row state.LastAck at now e keep flight n r = r
later_row state.FinWait2 at now e keep flight n r = r
later_row state.TimeWait at now e keep flight n r = absurd cc

lost_if_open : (b : Bool) (v : View) (now : Instant) → IsOpen v.congestion_controller → IsOpen (controller_lost_if b v now)
lost_if_open true v now h = lost_open v.congestion_controller _ _ h
lost_if_open false v now h = h

pub begins_ordered : (now : Instant) → KeptByBeginnings IsOrdered now
unfolding retransmission_begun fast_retransmission_marked tail_probed probed_by
begins_ordered now = record {
  remembers = λ v h. h;
  tells = λ v h. record { una_small = h.una_small; nxt_small = h.nxt_small; room = h.room; congestion = pre_transmitted_open _ _ h.congestion; peered = h.peered; row = h.row };
  times_out = λ v h. record { una_small = h.una_small; nxt_small = h.nxt_small; room = h.room; congestion = h.congestion; peered = tt; row = tt };
  forgets = λ v h. record { una_small = h.una_small; nxt_small = h.nxt_small; room = h.room; congestion = h.congestion; peered = tt; row = tt };
  begins_again = λ v at e h. record {
    una_small = h.una_small;
    nxt_small = h.una_small;
    room = h.room;
    congestion = timed_out_open v.congestion_controller _ _ h.congestion;
    peered = h.peered;
    row = begun_row v.rules v.remote_win_len v.state v.keep_alive now (retransmitted (backed_off v.rtte)) _ (length v.tx_buffer.bytes) (subst (λ i. Row v.state (idle_from now v.keep_alive) v.keep_alive i (length v.tx_buffer.bytes)) (sym (no_distance v.local_seq_no h.una_small)) (again_row v.state at v.keep_alive now _ _ (subst (λ x. Row v.state x v.keep_alive (seq_sub v.remote_last_seq v.local_seq_no) (length v.tx_buffer.bytes)) e h.row)));
  };
  marks = λ v e h. record {
    una_small = h.una_small;
    nxt_small = h.nxt_small;
    room = h.room;
    congestion = lost_open v.congestion_controller _ _ h.congestion;
    peered = h.peered;
    row = marked_as (λ x. Row v.state x v.keep_alive (seq_sub v.remote_last_seq v.local_seq_no) (length v.tx_buffer.bytes)) v.rules now v.keep_alive (retransmitted v.rtte) (fast_row v.state v.keep_alive now _ _ (was v timer.FastRetransmit e h)) (timed_row v.state now (retransmitted v.rtte) v.keep_alive _ _ (was v timer.FastRetransmit e h));
  };
  probes_tail = λ v at e h. record {
    una_small = h.una_small;
    nxt_small = h.nxt_small;
    room = h.room;
    congestion = lost_if_open (is_late v) v now h.congestion;
    peered = h.peered;
    row = later_row v.state at now (retransmitted v.rtte) v.keep_alive _ _ (was v (timer.Retransmit at) e h);
  };
  goes_back = λ v at delay e h. record {
    una_small = h.una_small;
    nxt_small = h.una_small;
    room = h.room;
    congestion = h.congestion;
    peered = h.peered;
    row = subst (λ x. Row v.state x v.keep_alive (seq_sub v.local_seq_no v.local_seq_no) (length v.tx_buffer.bytes)) (sym e) (subst (λ i. Row v.state (timer.ZeroWindowProbe at delay) v.keep_alive i (length v.tx_buffer.bytes)) (sym (no_distance v.local_seq_no h.una_small)) (back_row v.state at delay v.keep_alive _ _ (subst (λ x. Row v.state x v.keep_alive (seq_sub v.remote_last_seq v.local_seq_no) (length v.tx_buffer.bytes)) e h.row)));
  };
}
  where
    was : (v : View) (t : Timer) → v.timer ≡ t → IsOrdered v → Row v.state t v.keep_alive (seq_sub v.remote_last_seq v.local_seq_no) (length v.tx_buffer.bytes)
    was v t e h = subst (λ x. Row v.state x v.keep_alive (seq_sub v.remote_last_seq v.local_seq_no) (length v.tx_buffer.bytes)) e h.row

pub timers_ordered : (v : View) (now : Instant) → IsOrdered v → IsOrdered (after_timers v now)
timers_ordered v now h = timers_kept IsOrdered now (begins_ordered now) v h

pub readied_ordered : (v : View) (now : Instant) → IsOrdered v → IsOrdered (readied v now)
readied_ordered v now h = readied_kept IsOrdered now (begins_ordered now) v h

pub before_ordered : (f : Facts) (v : View) → IsOrdered v → IsOrdered (before_emit v f).view
before_ordered f v h = before_kept IsOrdered f (begins_ordered (moment_of f)) (λ v h. renewed_ordered v h.room) v h

-- ---- the calls that send

queued_row : (st : State) (t u : Timer) (keep : Option Duration) (i n m : ℕ) → may_send st ≡ true → (HasMoment t keep → HasMoment u keep) → n ≤ m → Row st t keep i n → Row st u keep i m
queued_row state.Established t u keep i n m may k l r = (k r.0, omega (arith, r.1, l))
queued_row state.CloseWait t u keep i n m may k l r = (k r.0, omega (arith, r.1, l))
queued_row _ t u keep i n m may k l r = absurd cc

probing_has_moment : (b : Bool) (t u : Timer) (keep : Option Duration) → HasMoment u keep → HasMoment t keep → HasMoment (if b then u else t) keep
probing_has_moment true t u keep h i = h
probing_has_moment false t u keep h i = i

queued_ordered : (v : View) (n : ℕ) (bs : List ℕ) → may_send v.state ≡ true → n ≤ v.tx_buffer.window → IsOrdered v → IsOrdered (queued v n bs)
unfolding queued
queued_ordered v n bs may within h =
    let long = length-append v.tx_buffer.bytes (take n bs) in
    let cut = length-take n bs in
    record {
      una_small = h.una_small;
      nxt_small = h.nxt_small;
      room = omega (arith, h.room, long, cut, within);
      congestion = h.congestion;
      peered = h.peered;
      row = queued_row v.state v.timer _ v.keep_alive _ (length v.tx_buffer.bytes) _ may (probing_has_moment (not (n == 0) && (v.remote_win_len == 0) && is_idle v.timer) v.timer (first_probe v.rtte) v.keep_alive tt) (omega (arith, long)) h.row;
    }

-- ---- the setters

new_has_moment : (x : Option Duration) (t : Timer) → HasMoment (keep_alive_timer x t) x
new_has_moment None (timer.Idle None) = refl
new_has_moment None (timer.Idle (Some at)) = tt
new_has_moment None _ = tt
new_has_moment (Some d) (timer.Idle None) = tt
new_has_moment (Some d) (timer.Idle (Some at)) = tt
new_has_moment (Some d) _ = tt

new_close : (x : Option Duration) (t : Timer) → is_close t ≡ true → is_close (keep_alive_timer x t) ≡ true
new_close x (timer.Idle at) e = absurd cc
new_close None _ e = e
new_close (Some d) _ e = e

new_opening : (x : Option Duration) (t : Timer) (i : ℕ) → IsOpening t i → IsOpening (keep_alive_timer x t) i
new_opening None t i h = h
new_opening (Some d) (timer.Idle None) i h = h
new_opening (Some d) (timer.Idle (Some at)) i h = h
new_opening (Some d) _ i h = h

keep_row : (st : State) (x : Option Duration) (t : Timer) (keep : Option Duration) (i n : ℕ) → Row st t keep i n → Row st (keep_alive_timer x t) x i n
keep_row state.Closed x t keep i n r = tt
keep_row state.Listen x t keep i n r = r
keep_row state.SynSent x t keep i n r = (new_opening x t i r.0, r.1)
keep_row state.SynReceived x t keep i n r = (new_has_moment x t, r.1, r.2)
keep_row state.Established x t keep i n r = (new_has_moment x t, r.1)
keep_row state.CloseWait x t keep i n r = (new_has_moment x t, r.1)
keep_row state.FinWait1 x t keep i n r = (new_has_moment x t, r.1)
keep_row state.Closing x t keep i n r = (new_has_moment x t, r.1)
keep_row state.LastAck x t keep i n r = (new_has_moment x t, r.1)
keep_row state.FinWait2 x t keep i n r = (new_has_moment x t, r.1, r.2)
keep_row state.TimeWait x t keep i n r = (new_close x t r.0, r.1, r.2)

pub same_flag : (a b : Bool) → ((a ≡ b → ⊥) → ⊥) → a ≡ b
same_flag true true h = refl
same_flag true false h = absurd (h (λ e. absurd cc))
same_flag false true h = absurd (h (λ e. absurd cc))
same_flag false false h = refl

none_is : (o : Option Tuple) → is_none o ≡ true → o ≡ None
none_is None e = refl
none_is (Some t) e = absurd cc

abbrev cwnd_of : AnyController → ℕ
cwnd_of (controller.None x) = 1
cwnd_of (controller.Reno r) = r.cwnd
cwnd_of (controller.Cubic c) = c.reno.cwnd

abbrev mss_of : AnyController → ℕ
mss_of (controller.None x) = 1
mss_of (controller.Reno r) = r.mss
mss_of (controller.Cubic c) = c.reno.mss

abbrev ssthresh_of : AnyController → ℕ
ssthresh_of (controller.None x) = 1
ssthresh_of (controller.Reno r) = r.ssthresh
ssthresh_of (controller.Cubic c) = c.reno.ssthresh

open_numbers : (c : AnyController) → IsOpen c → (0 < cwnd_of c) × (0 < mss_of c) × (0 < ssthresh_of c)
open_numbers (controller.None x) h = (omega arith, omega arith, omega arith)
open_numbers (controller.Reno r) h = (h.cwnd, h.mss, h.ssthresh)
open_numbers (controller.Cubic c) h = (h.cwnd, h.mss, h.ssthresh)

open_by : (c : AnyController) → 0 < cwnd_of c → 0 < mss_of c → 0 < ssthresh_of c → IsOpen c
open_by (controller.None x) a b d = tt
open_by (controller.Reno r) a b d = record { cwnd = a; mss = b; ssthresh = d }
open_by (controller.Cubic c) a b d = record { cwnd = a; mss = b; ssthresh = d }

module _ (v w : View) (h : IsOrdered v) where
  setting_ordered : Sets v w → IsOrdered w
  setting_ordered = setting_leaves IsOrdered v w
      (λ x. record { una_small = h.una_small; nxt_small = h.nxt_small; room = h.room; congestion = kind_open x; peered = h.peered; row = h.row })
      (λ x. record { una_small = h.una_small; nxt_small = h.nxt_small; room = h.room; congestion = h.congestion; peered = h.peered; row = keep_row v.state x v.timer v.keep_alive _ _ h.row })
      (λ timeout delay nagle hops paused is_there rules estimator. h)

  -- ---- closing

  -- in SYN-RECEIVED it may wait
  close_ordered : IsOrdered (closed v)
  close_ordered =
      let c = called_as (λ st. IsPeeredIn st v.tuple × Row st v.timer v.keep_alive (flight v) (length v.tx_buffer.bytes)) (waits_in v.state v.rules) v.state (h.peered, h.row) (closed_row v v.state h.peered h.row) in
      record { una_small = h.una_small; nxt_small = h.nxt_small; room = h.room; congestion = h.congestion; peered = c.0; row = c.1 }

  -- ---- opening

  -- what is asked in LISTEN can be decided
  same_listener : v.state ≡ state.Listen → ((w ≡ v → ⊥) → ⊥) → IsOrdered w
  same_listener is n = record {
    una_small = let e = number (λ x. x.local_seq_no.0) in omega (arith, e, h.una_small);
    nxt_small = let e = number (λ x. x.remote_last_seq.0) in omega (arith, e, h.nxt_small);
    room = let e = number (λ x. capacity x.tx_buffer) in omega (arith, e, h.room);
    congestion =
        let o = open_numbers v.congestion_controller h.congestion in
        let a = number (λ x. cwnd_of x.congestion_controller) in
        let b = number (λ x. mss_of x.congestion_controller) in
        let d = number (λ x. ssthresh_of x.congestion_controller) in
        open_by w.congestion_controller (omega (arith, a, o.0)) (omega (arith, b, o.1)) (omega (arith, d, o.2));
    peered = subst (λ st. IsPeeredIn st w.tuple) (sym listens) (none_is w.tuple (flag (λ x. is_none x.tuple) ∙ ap is_none (subst (λ st. IsPeeredIn st v.tuple) is h.peered)));
    row = subst (λ st. Row st w.timer w.keep_alive (flight w) (length w.tx_buffer.bytes)) (sym listens) (number (λ x. length x.tx_buffer.bytes) ∙ subst (λ st. Row st v.timer v.keep_alive (flight v) (length v.tx_buffer.bytes)) is h.row);
  }
    where
      number : (f : View → ℕ) → f w ≡ f v
      number f = same_number (f w) (f v) (λ d. n (λ e. d (ap f e)))

      flag : (f : View → Bool) → f w ≡ f v
      flag f = same_flag (f w) (f v) (λ d. n (λ e. d (ap f e)))

      listens : w.state ≡ state.Listen
      listens = listening_is w.state (flag (λ x. is_listening x.state) ∙ ap is_listening is)

calls_ordered : KeptByCalls IsOrdered (λ d. Unit {0})
unfolding read_off
calls_ordered = record {
  queues = λ v n bs may within h. queued_ordered v n bs may within h;
  reads = λ v n h. h;
  connects = λ v t word small h. connected_ordered v t word small h.room;
  listens = λ v e h. listened_ordered v e h.room;
  decided = λ v w is n h. same_listener v w h is n;
  closes = λ v h. close_ordered v v h;
  aborts = λ v h. record { una_small = h.una_small; nxt_small = h.nxt_small; room = h.room; congestion = h.congestion; peered = tt; row = tt };
  sets = λ v w x m h. setting_ordered v w h x;
}

-- ---- the path MTU

shortened_ordered : (v : View) (mss : ℕ) → IsOrdered v → IsOrdered (shortened v mss)
unfolding shortened
shortened_ordered v mss h = record { una_small = h.una_small; nxt_small = h.nxt_small; room = h.room; congestion = shortened_open v.congestion_controller mss h.congestion; peered = h.peered; row = h.row }

-- nothing is in flight, and what goes out again is waited for
repeated_row : (st : State) (now : Instant) (e : Estimator) (keep : Option Duration) (flight n : ℕ) → carries_data st ≡ true → flight ≡ 0 → Row st (retransmit_from now e) keep flight n
repeated_row state.Established now e keep flight n c f = (tt, omega (arith, f))
repeated_row state.CloseWait now e keep flight n c f = (tt, omega (arith, f))
repeated_row state.FinWait1 now e keep flight n c f = (tt, omega (arith, f))
repeated_row state.Closing now e keep flight n c f = (tt, omega (arith, f))
repeated_row state.LastAck now e keep flight n c f = (tt, omega (arith, f))
repeated_row _ now e keep flight n c f = absurd cc

repeated_ordered : (v : View) (now : Instant) → carries_data v.state ≡ true → IsOrdered v → IsOrdered (all_sent_again v now)
unfolding all_sent_again
repeated_ordered v now e h = record { una_small = h.una_small; nxt_small = h.una_small; room = h.room; congestion = h.congestion; peered = h.peered; row = repeated_row v.state now (retransmitted v.rtte) v.keep_alive (seq_sub v.local_seq_no v.local_seq_no) (length v.tx_buffer.bytes) e (no_distance v.local_seq_no h.una_small) }

-- ---- any call

pub kept_ordered : Kept (λ at. IsOrdered) (λ at. Unit {0}) (λ last now. Unit {0}) (λ d. Unit {0})
kept_ordered = record {
  later = λ last now v c h. h;
  calls = λ last b. calls_ordered;
  segments = λ r now word ip s v small numbered bare h. process_ordered now word ip s small numbered.ack_number r v h bare;
  beginnings = λ now. begins_ordered now;
  resets = λ now v h. renewed_ordered v h.room;
  sendings = λ o f u w out h i. sends_ordered o f u out w h i;
  shortens = λ now v mss le h. shortened_ordered v mss h;
  repeats = λ now v e h. repeated_ordered v now e h;
}

pub fresh_ordered : (rx tx : Ring ℕ) → length tx.queue + length tx.spare ≤ 2 ^ 30 → IsOrdered (fresh (receiving rx) (queue_of tx))
unfolding fresh
fresh_ordered rx tx room = record { una_small = omega arith; nxt_small = omega arith; room = room; congestion = kind_open kinds.Reno; peered = tt; row = tt }

pub reached_ordered : (v : View) → IsReached v → IsOrdered v
reached_ordered v r = reached_kept IsOrdered kept_ordered fresh_ordered v r
