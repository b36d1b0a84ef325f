-- What a dispatch does to a socket, and what it emits, is allowed on the two streams.
use Rattle.std.proofs.Common.{◌||◌, ◌≡◌, ℕ, Bool, true, false, cond, refl, sym, ap, subst, ◌∙◌, arith, List, Option, Some, None, inl, inr}
use Rattle.std.specs.Prelude.{◌==◌}
use Rattle.net_base.specs.declared.time.Instant.{Instant}
use Rattle.control_wire.specs.Segment.{segment_len}
use Rattle.control_wire.specs.Seq.{seq_add}
use Rattle.sock_core.specs.Facts.{Facts}
use Rattle.sock_core.specs.Places.{later_number}
use Rattle.sock_core.specs.Received.{cleared}
use Rattle.sock_core.specs.Seq.{later_of}
use Rattle.sock_core.specs.Congestion.{post_transmitted}
use Rattle.pair_core.proofs.ShownNumbers.{numbered_effect}
use Rattle.sock_tcp.proofs.Arming.{armed_as}
use Rattle.sock_tcp.specs.Advance.{dropped}
use Rattle.sock_tcp.specs.Begin.{last_ts_set, last_ts_set_at, told_ready, readied, retransmission_begun, fast_retransmission_marked, after_timer, after_timers, unless_paused, ended, begun, begun_to, nothing_due, by_due, before_emit, before_emit_to, peer_of, time_wait_ended, probing_begun, timers_by}
use Rattle.sock_tcp.specs.Content.{Sending, asked, offset_of, content}
use Rattle.sock_tcp.specs.Due.{is_due}
use Rattle.sock_tcp.specs.Opening.{renewed}
use Rattle.sock_tcp.specs.Polls.{is_reached, timeout_poll}
use Rattle.sock_tcp.specs.Rfc.UserTimeout.{timeout_of}
use Rattle.sock_tcp.specs.Queue.{IsLent}
use Rattle.sock_tcp.specs.Rfc.TailLoss.{probes_tail, probed_by, tail_probed, tail_armed}
use Rattle.sock_tcp.specs.Rfc.RoundTrips.{sending_measured}
use Rattle.sock_tcp.specs.Sent.{goes_on, emitted_as, after_any, after_probe, snd_nxt_moved, sending_timed, after_kind, after_sending}
use Rattle.sock_tcp.specs.Timers.{is_over, is_close_over, retransmit_unless_set}
use Rattle.sock_tcp.specs.Rfc.Idle.{idle_by, restarted_by}
use Rattle.sock_tcp.specs.View.{View, moment_of, fresh}
use Rattle.sock_tcp.specs.declared.emission.Kind.{Kind}
use Rattle.sock_tcp.specs.declared.emission.Kind.TheVariants as kind
use Rattle.sock_tcp.specs.declared.emission.Emitted.{Emitted}
use Rattle.sock_tcp.specs.declared.state.State.TheVariants as state
use Rattle.sock_tcp.specs.declared.timer.Timer.{Timer}
use Rattle.sock_tcp.specs.declared.timer.Timer.TheVariants as timer
use Rattle.sock_tcp.specs.declared.tuple.Tuple.{Tuple}
use Rattle.pair_core.specs.PairLaws.{IsBounded, MayEmit}
use Rattle.pair_core.specs.PairNetwork.{phase_of, shown}
use Rattle.sock_tcp.specs.declared.rules.Rules.{Rules}
use Rattle.sock_tcp.specs.declared.rules.Rules.TheVariants as rules
use Rattle.pair_core.specs.StreamCalls.{DispatchEffect, Same, MovesSndNxt, IsOver}
use Rattle.pair_core.specs.StreamEffects.{SndNxtWithin}
use Rattle.pair_core.specs.StreamTables.{HasSendingBounds}
use Rattle.pair_core.specs.StreamViews.{SocketView, HasIss}
use Rattle.pair_core.proofs.ShownSending.{content_effect, content_goes, GoesOut}
use Rattle.pair_core.proofs.ShownWindow.{later_shown}
use Rattle.pair_core.proofs.StreamTables.{emit_moves}

-- ---- the beginning

readied_shows : (v : View) (now : Instant) → shown (readied v now) ≡ shown v
unfolding readied last_ts_set
readied_shows v now = go v.remote_last_ts
  where
    go : (o : Option Instant) → shown (told_ready (last_ts_set_at o v now) now) ≡ shown v
    go None = refl
    go (Some t) = refl

-- SND.NXT may go back to SND.UNA
back_within : (v : View) → (HasIss (phase_of v.state) → HasSendingBounds (shown v)) → HasIss (phase_of v.state) → SndNxtWithin (record (shown v) { snd_nxt = v.local_seq_no.0 })
back_within v bounds iss =
    let b : HasSendingBounds (shown v) = bounds iss in
    record { flight = 0; is = omega (arith, b.snd_una); le = omega arith }

-- what the timer asks for
timer_shows : (m : Timer) (v : View) (now : Instant) → (HasIss (phase_of v.state) → HasSendingBounds (shown v)) → DispatchEffect (shown v) (shown (after_timer m v now))
unfolding retransmission_begun fast_retransmission_marked
timer_shows (timer.Retransmit t) v now bounds = go (is_over t now)
  where
    go : (b : Bool) → DispatchEffect (shown v) (shown (cond b (retransmission_begun v now) v))
    go true = MovesSndNxt v.local_seq_no.0 (back_within v bounds) refl
    go false = Same refl
timer_shows timer.FastRetransmit v now bounds = Same refl
timer_shows (timer.Idle at) v now bounds = Same refl
timer_shows (timer.ZeroWindowProbe t delay) v now bounds = go (is_over t now)
  where
    by_rules : (r : Rules) → DispatchEffect (shown v) (shown (probing_begun r v))
    by_rules rules.Smoltcp = Same refl
    by_rules rules.Rfc = MovesSndNxt v.local_seq_no.0 (back_within v bounds) refl

    go : (b : Bool) → DispatchEffect (shown v) (shown (cond b (probing_begun v.rules v) v))
    go true = by_rules v.rules
    go false = Same refl
timer_shows (timer.Close t) v now bounds = Same refl

timers_show : (v : View) (now : Instant) → (HasIss (phase_of v.state) → HasSendingBounds (shown v)) → DispatchEffect (shown v) (shown (after_timers v now))
unfolding after_timers tail_probed probed_by
timers_show v now bounds = go (is_reached (timeout_poll (timeout_of v) v.remote_last_ts) now)
  where
    probed : (b : Bool) → DispatchEffect (shown v) (shown (timers_by b v now))
    probed true = Same refl
    probed false = timer_shows v.timer v now bounds

    go : (b : Bool) → DispatchEffect (shown v) (shown (cond b (record v { state = state.Closed }) (timers_by (probes_tail v now) v now)))
    go true = IsOver (record { phase = refl; receive_queue = inl refl; fin = λ e. (e, refl) })
    go false = probed (probes_tail v now)

reset_shows : (z : SocketView) (v : View) → DispatchEffect z (shown (renewed v))
unfolding renewed fresh cleared
reset_shows z v = IsOver (record { phase = refl; receive_queue = inr refl; fin = λ e. let no : false ≡ true = e in absurd cc })

begins : (v : View) (f : Facts) → (HasIss (phase_of v.state) → HasSendingBounds (shown v)) → DispatchEffect (shown v) (shown (begun v f).view)
unfolding begun
begins v f bounds = go v.tuple
  where
    dated : View
    dated = readied v (moment_of f)

    dated_bounds : HasIss (phase_of dated.state) → HasSendingBounds (shown dated)
    dated_bounds = subst (λ (z : SocketView). HasIss z.phase → HasSendingBounds z) (sym (readied_shows v (moment_of f))) bounds

    two : (t : Tuple) (b : Bool) → DispatchEffect (shown v) (shown (cond b (unless_paused (after_timers dated (moment_of f))) (ended (renewed v))).view)
    two t true = subst (λ z. DispatchEffect z (shown (after_timers dated (moment_of f)))) (readied_shows v (moment_of f)) (timers_show dated (moment_of f) dated_bounds)
    two t false = reset_shows (shown v) v

    go : (o : Option Tuple) → DispatchEffect (shown v) (shown (begun_to o v f).view)
    go None = Same refl
    go (Some t) = two t (f.has_address t.local.addr)

-- CLOSED, with the receive queue as it is
forgotten_shows : (z : SocketView) (u : View) → DispatchEffect z (shown u) → DispatchEffect z (shown (dropped u))
forgotten_shows z u (Same e) = IsOver (record { phase = refl; receive_queue = inl (ap (λ (w : SocketView). w.receive_queue) e); fin = λ c. (sym (ap (λ (w : SocketView). w.fin_counted) e) ∙ c, ap (λ (w : SocketView). w.receive_queue) e) })
forgotten_shows z u (MovesSndNxt n within e) = IsOver (record { phase = refl; receive_queue = inl (ap (λ (w : SocketView). w.receive_queue) e); fin = λ c. (sym (ap (λ (w : SocketView). w.fin_counted) e) ∙ c, ap (λ (w : SocketView). w.receive_queue) e) })
forgotten_shows z u (IsOver e) = IsOver (record { phase = refl; receive_queue = e.receive_queue; fin = e.fin })

-- where nothing is due TIME-WAIT may be over
reasons_show : (o : Option Tuple) (z : SocketView) (u : View) (f : Facts) → DispatchEffect z (shown u) → DispatchEffect z (shown (before_emit_to o u f).view)
unfolding nothing_due
reasons_show None z u f e = e
reasons_show (Some t) z u f e = go (is_due u t f)
  where
    by_rules : (r : Rules) → DispatchEffect z (shown (time_wait_ended r u))
    by_rules rules.Smoltcp = reset_shows z u
    by_rules rules.Rfc = forgotten_shows z u e

    over : (b : Bool) → DispatchEffect z (shown (cond b (time_wait_ended u.rules u) u))
    over true = by_rules u.rules
    over false = e

    go : (b : Bool) → DispatchEffect z (shown (by_due b u f).view)
    go true = e
    go false = over (is_close_over u.timer (moment_of f))

pub begun_shows : (v : View) (f : Facts) → IsBounded v → DispatchEffect (shown v) (shown (before_emit v f).view)
unfolding before_emit
begun_shows v f bounds = reasons_show (peer_of (begun v f)) (shown v) (begun v f).view f (begins v f bounds.sending)

-- ---- what an emit that succeeds leaves

timed_shows : (v : View) (now : Instant) (s : Emitted) → shown (sending_timed v now s) ≡ shown v
unfolding sending_timed
timed_shows v now s = go (s.len == 0)
  where
    go : (b : Bool) → shown (cond b v (record v { rtte = sending_measured v now s; timer = retransmit_unless_set v.timer now v.rtte; congestion_controller = post_transmitted (restarted_by v.rules v.idle_at now v.congestion_controller) now s.len; idle_at = idle_by v.rules v.idle_at now v.rtte; pending_fast_retransmit = v.pending_fast_retransmit || goes_on v })) ≡ shown v
    go true = refl
    go false = refl

armed_shows : (v : View) (now : Instant) (n : ℕ) → shown (tail_armed v now n) ≡ shown v
armed_shows v now n = armed_as (λ w. shown w ≡ shown v) v now n refl (λ at e. refl)

moved_shows : (v : View) (now : Instant) (s : Emitted) → shown (after_kind kind.Plain (after_any v now) now s) ≡ record (shown v) { snd_nxt = (later_of v.remote_last_seq s.end).0 }
unfolding after_any snd_nxt_moved
moved_shows v now s = armed_shows (sending_timed (snd_nxt_moved (after_any v now) s) now s) now s.len ∙ timed_shows (snd_nxt_moved (after_any v now) s) now s

-- a probe and a keep-alive move nothing, any other segment moves SND.NXT behind it
leaves_by : (k : Kind) (v : View) (now : Instant) (s : Emitted) → (HasIss (phase_of v.state) → SndNxtWithin (record (shown v) { snd_nxt = (later_of v.remote_last_seq s.end).0 })) → DispatchEffect (shown v) (shown (after_kind k (after_any v now) now s))
unfolding after_any after_probe
leaves_by kind.Plain v now s within = MovesSndNxt (later_of v.remote_last_seq s.end).0 within (moved_shows v now s)
leaves_by kind.Probe v now s within = Same refl
leaves_by kind.KeepAlive v now s within = Same refl

module _ (v : View) (released taken : ℕ) (bounds : IsBounded v) where
  moves : (c : Sending) → (HasIss (phase_of v.state) → GoesOut v released taken c.segment) → HasIss (phase_of v.state) → SndNxtWithin (record (shown v) { snd_nxt = (later_of v.remote_last_seq (emitted_as c.kind c.segment).end).0 })
  moves c goes iss =
      let b : HasSendingBounds (shown v) = bounds.sending iss in
      let h : GoesOut v released taken c.segment = goes iss in
      subst (λ n. SndNxtWithin (record (shown v) { snd_nxt = n })) (ap (later_number v.remote_last_seq.0) (sym h.ends) ∙ sym (later_shown v.remote_last_seq (seq_add c.segment.seq_number (segment_len c.segment)))) (emit_moves (shown v) h.reach b h.le)

  pub emission_plans : (t : Tuple) (f : Facts) (stamp : Option ℕ) (bytes : List ℕ) → IsLent v.tx_buffer (offset_of v) (asked v t f) bytes → (c : Sending) → content v t f stamp bytes ≡ Some c → MayEmit v c (moment_of f) released taken
  unfolding after_sending
  emission_plans t f stamp bytes lent c e =
      record {
        sends = numbered_effect v c.segment released taken (content_effect v released taken bounds t f stamp bytes lent c e);
        leaves = leaves_by c.kind v (moment_of f) (emitted_as c.kind c.segment) (moves c (λ iss. content_goes v released taken (bounds.sending iss) iss t f stamp bytes lent c e));
      }
