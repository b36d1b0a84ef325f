-- Segments go out, come and are answered.
use Rattle.std.proofs.Common.{◌≡◌, ◌≤◌, ℕ, ◌+◌, ◌-◌, ◌%◌, ◌^◌, ◌<◌, ◌⊎◌, true, false, refl, sym, ap, subst, ◌∙◌, arith, List, [], ◌++◌, length, Some, inl, inr, ⊎_elim, length-append, add-zero}
use Rattle.std.specs.List.{Contains}
use Rattle.std.proofs.lemmas.List.{append-nil}
use Rattle.sock_core.specs.Places.{number_at}
use Rattle.sock_core.proofs.Numbers.{number_add}
use Rattle.sock_core.proofs.Streams.{prefix_self}
use Rattle.pair_core.specs.Network.{IsStamped, Network, emitted, heard_by, with_local}
use Rattle.pair_core.proofs.NetworkEndpoints.{ArrivesYoung}
use Rattle.pair_core.specs.NetworkInvariant.{HasFallenBack, IsInvariant, IsTrueSegment, PhaseAllows, SameNumbers, SendingMatches}
use Rattle.pair_core.specs.StreamEffects.{HearsAck, HearsData, MaySend, StaysSending}
use Rattle.pair_core.specs.StreamModel.{Grows, Stream, counted}
use Rattle.pair_core.specs.StreamViews.{Dead, HasIss, HasNoIss, IsSynchronized, KnowsPeer, SocketView, StreamSegment, SynReceived, SynSent}
use Rattle.pair_core.proofs.NetworkChanges.{changes_keep, comes_here, emit_keep, is_young, remote_has_iss}
use Rattle.pair_core.proofs.NetworkOpening.{emitter_has_iss}
use Rattle.pair_core.proofs.NetworkPhases.{dec_dead, knows_iss, no_iss_not_iss, only_syn_sent, synchronized_knows, synchronized_not_early, synchronized_not_no_iss}
use Rattle.pair_core.proofs.StreamAcking.{released_more}
use Rattle.pair_core.proofs.StreamFallBack.{ack_by_same_numbers, any_ack, first_ack}
use Rattle.pair_core.proofs.StreamGrowth.{sender_grows, sound_kept}
use Rattle.pair_core.proofs.StreamHearing.{heard, heard_grows, heard_receiving}
use Rattle.pair_core.proofs.StreamMatches.{sending_same, syn_empty, syn_unacked}
use Rattle.pair_core.proofs.StreamSending.{keep_alive_true, queue_length, sent_payload_true}

-- a segment that is no RST goes out
pub emits : (w : Network) (g : StreamSegment) → IsStamped w.local g → MaySend w.local.view g → IsInvariant w → IsInvariant (emitted w g)
emits w g now m i =
    let t = i.outgoing_holds.sending m.iss in
    let at : g.released_at ≤ i.outgoing.released = omega (arith, now.released, i.outgoing_holds.released) in
    let same : SameNumbers i.remote_acked_origin i.remote_origin = ⊎_elim (λ a. a) (λ o. absurd (subst HasIss o.dead m.iss)) i.remote_numbers in
    emit_keep w i g
    (inr (record {
      reset = λ e. let c : true ≡ false = sym e ∙ m.plain in cc;
      payload = λ e. ⊎_elim (λ p. sent_payload_true i.local_origin i.outgoing w.local.view i.outgoing_holds.sound t g p at) (λ p. keep_alive_true i.local_origin i.outgoing w.local.view i.outgoing_holds.sound t g p at) m.content;
      ack = λ e. record { says = λ a is. let s = m.acks.says a is in (counted i.incoming, s.1 ∙ (i.incoming_holds.receiving s.0).rcv_nxt ∙ sym (same (counted i.incoming + 2)), record { taken = omega arith }, omega (arith, now.taken, i.incoming_holds.taken)) };
      syn = λ e is.
          let s = m.opens is in
          let first : t.place ≡ 1 = (syn_unacked w.local.view.phase i.outgoing t.place s.0 t.phase).0 in
          s.1 ∙ t.snd_una ∙ ap (number_at i.local_origin) first;
    }))
    (λ u. absurd (no_iss_not_iss w.local.view.phase u m.iss))
    (λ e a is. (m.acks.says a is).0)

-- an RST is true where its emitter may send one
reset_true : (w : Network) (i : IsInvariant w) (k : StreamSegment) → k.rst ≡ true → (w.local.view.phase ≡ Dead) ⊎ ((w.remote.listener ≡ false) × (HasNoIss w.remote.view.phase → ⊥)) → IsTrueSegment w.local w.remote k i.local_origin i.remote_acked_origin i.outgoing i.incoming
reset_true w i k reset may = record {
  reset = λ e. may;
  payload = λ e. let c : true ≡ false = sym reset ∙ e in cc;
  ack = λ e. let c : true ≡ false = sym reset ∙ e in cc;
  syn = λ e is. let c : true ≡ false = sym reset ∙ e in cc;
}

-- so an RST may go out, also where it goes to a peer that is CLOSED for good
reset_keeps : (w : Network) (i : IsInvariant w) (k : StreamSegment) → k.rst ≡ true → (w.remote.view.phase ≡ Dead) ⊎ ((w.local.view.phase ≡ Dead) ⊎ ((w.remote.listener ≡ false) × (HasNoIss w.remote.view.phase → ⊥))) → IsInvariant (emitted w k)
reset_keeps w i k reset may =
    emit_keep w i k
    (⊎_elim (λ d. inl d) (λ m. inr (reset_true w i k reset m)) may)
    (λ u. reset)
    (λ e a is. let c : true ≡ false = sym reset ∙ e in cc)

-- an RST goes out of a side that is CLOSED
pub emits_reset : (w : Network) (g : StreamSegment) → g.rst ≡ true → w.local.view.phase ≡ Dead → IsInvariant w → IsInvariant (emitted w g)
emits_reset w g rst dead i = reset_keeps w i g rst (inr (inl dead))

-- before the own SYN is acknowledged an acknowledgement of something else comes only of a peer that is CLOSED
pub answers_wrong_ack : (w : Network) (g k : StreamSegment) (a : ℕ) → Contains w.remote_segments g → g.rst ≡ false → (w.local.view.phase ≡ SynSent) ⊎ (w.local.view.phase ≡ SynReceived) → g.ack ≡ Some a → (a ≡ (w.local.view.snd_una + 1) % 2 ^ 32 → ⊥) → k.rst ≡ true → IsInvariant w → IsInvariant (emitted w k)
answers_wrong_ack w g k a there plain ph ack wrong reset i =
    let d : HasIss w.local.view.phase = ⊎_elim (λ e. subst HasIss (sym e) tt) (λ e. subst HasIss (sym e) tt) ph in
    let t = i.outgoing_holds.sending d in
    let seg = comes_here w i g there (λ c. subst HasIss c d) in
    let says = syn_unacked w.local.view.phase i.outgoing t.place ph t.phase in
    reset_keeps w i k reset (⊎_elim
    (λ same. absurd (wrong (first_ack i.local_origin i.outgoing w.local.view g a i.outgoing_holds.sound t (ack_by_same_numbers g i.local_acked_origin i.local_origin i.outgoing same (seg.ack plain)) (syn_empty w.local.view i.outgoing t.place says.0 t.at) says.1 says.0 ack)))
    (λ back. inl back.dead)
    i.local_numbers)

-- A side that does not accept a segment answers it: it is CLOSED for good, or its peer is, or the peer is in SYN-SENT and so connected
pub answers_refused : (w : Network) (g k : StreamSegment) → Contains w.remote_segments g → g.rst ≡ false → HasNoIss w.local.view.phase ⊎ (w.local.view.phase ≡ Dead) → k.rst ≡ true → IsInvariant w → IsInvariant (emitted w k)
answers_refused w g k there plain ph reset i =
    reset_keeps w i k reset (⊎_elim
    (λ u. ⊎_elim
    (λ a. dec_dead w.remote.view.phase (λ alive.
    let chosen : HasNoIss w.remote.view.phase → ⊥ = emitter_has_iss w i g there plain (λ d. subst HasNoIss d u) in
    inr (i.remote_connects (only_syn_sent w.remote.view.phase a.unknown chosen alive), chosen)))
    (λ d. inl d)
    (i.local_unspoken u))
    (λ d. inr (inl d))
    ph)

-- the count of taken bytes grows by what joined
taken_more : (queue more after joined : List ℕ) (n : ℕ) → n ≡ length joined → after ≡ queue ++ more → n + (length after - length queue) ≡ length (joined ++ more)
taken_more queue more after joined n e is = omega (arith, ap length is, length-append queue more, length-append joined more)

-- what an acknowledgement leaves of the sending half, where n bytes were released
abbrev Acknowledged : (w : Network) → IsInvariant w → SocketView → Type 0
Acknowledged w i u = (n : ℕ) × Grows i.outgoing (released_more i.outgoing n) × SendingMatches u i.local_origin (released_more i.outgoing n) × (SameNumbers i.local_acked_origin i.local_origin ⊎ HasFallenBack (heard_by w.local u) w.remote (released_more i.outgoing n))

-- a true segment is heard, whatever its acknowledgement released
heard_keeps : (w : Network) (g : StreamSegment) (u : SocketView) (i : IsInvariant w) → ArrivesYoung w g → KnowsPeer w.local.view.phase → HearsData w.local.view u g → IsSynchronized u.phase → Acknowledged w i u → IsInvariant (with_local w (heard_by w.local u))
heard_keeps w g u i come m came mu a =
    let r = i.incoming_holds.receiving m in
    let t = i.outgoing_holds.sending (knows_iss w.local.view.phase m) in
    let p = (comes_here w i g come.sent (λ c. subst KnowsPeer c m)).payload come.plain in
    let fresh : i.incoming.released < g.released_at + 2 ^ 29 = omega (arith, (is_young w i g come.may).released, i.incoming_holds.released) in
    let r' = heard_receiving i.remote_origin i.incoming w.local.view u g w.local.handed_out i.incoming_holds.sound i.incoming_holds.fits r p fresh came in
    let sound' = sound_kept i.outgoing (released_more i.outgoing a.0) i.outgoing_holds.sound a.1 in
    changes_keep w i (heard_by w.local u) (record {
      outgoing = released_more i.outgoing a.0;
      incoming = heard i.incoming u came.more;
      outgoing_grows = a.1;
      incoming_grows = heard_grows i.remote_origin i.incoming w.local.view u g w.local.handed_out i.incoming_holds.sound i.incoming_holds.fits r p fresh came;
      outgoing_received = record { joined = refl; held = refl; fin = refl };
      incoming_sent = record { accepted = refl; closed = refl; released = refl };
      fits = record { room = omega (arith, i.outgoing_holds.fits.room) };
      within = i.local_within;
      accepted = i.outgoing_holds.accepted;
      closed = i.outgoing_holds.closed;
      released = omega (arith, i.outgoing_holds.released, queue_length i.local_origin i.outgoing w.local.view i.outgoing_holds.sound t, queue_length i.local_origin (released_more i.outgoing a.0) u sound' a.2);
      sending = λ d. a.2;
      unsent = λ d. absurd (synchronized_not_no_iss u.phase mu d);
      receiving = λ d. record { rcv_nxt = r'.rcv_nxt; fin = r'.fin; held = r'.held; queue = r'.queue };
      delivered = ([], append-nil (w.local.handed_out ++ u.receive_queue) ∙ r'.queue);
      nothing_yet = λ d. absurd (synchronized_not_early u.phase mu d);
      finished = λ d. (d, r'.queue);
      taken = taken_more w.local.view.receive_queue came.more u.receive_queue i.incoming.joined w.local.taken i.incoming_holds.taken came.receive_queue;
      numbers = a.3;
      connects_only = λ c. absurd (subst IsSynchronized c mu);
      listener = inl refl;
      dead = λ d. absurd (subst KnowsPeer d m);
      had_no_iss = λ d. absurd (synchronized_not_no_iss u.phase mu d);
      knows = λ d k. remote_has_iss w i m k;
    })

-- a segment comes whose acknowledgement changes nothing
stays_matching : (v u : SocketView) (o : ℕ) (f : Stream) → StaysSending v u → SendingMatches v o f → SendingMatches u o f
stays_matching v u o f s t = record {
  place = t.place;
  snd_una = s.snd_una ∙ t.snd_una;
  acked = t.acked;
  flight = s.snd_nxt.flight;
  snd_nxt = s.snd_nxt.is ∙ ap (λ m. (m + s.snd_nxt.flight) % 2 ^ 32) (s.snd_una ∙ t.snd_una) ∙ number_add o t.place s.snd_nxt.flight;
  flight_le = s.snd_nxt.le;
  queue = s.transmit_queue ∙ t.queue;
  at = ⊎_elim (λ a. inl a) (λ r. ⊎_elim (λ a. inr (inl a)) (λ a. inr (inr (a.0, a.1, s.phase ∙ a.2))) r) t.at;
  phase = subst (λ p. PhaseAllows p f t.place) (sym s.phase) t.phase;
}

pub hears_segment : (w : Network) (g : StreamSegment) (u : SocketView) → ArrivesYoung w g → IsSynchronized w.local.view.phase → HearsData w.local.view u g → StaysSending w.local.view u → IsInvariant w → IsInvariant (with_local w (heard_by w.local u))
hears_segment w g u come live came same i =
    let m = synchronized_knows w.local.view.phase live in
    heard_keeps w g u i come m came (subst IsSynchronized (sym same.phase) live) (
      0,
      sender_grows i.outgoing i.outgoing.accepted i.outgoing.closed (i.outgoing.released + 0) (prefix_self i.outgoing.accepted) (λ e. (e, refl)) (inl (add-zero i.outgoing.released)),
      sending_same u i.local_origin i.outgoing (released_more i.outgoing 0) (record { accepted = refl; closed = refl; released = add-zero i.outgoing.released }) (omega arith) (stays_matching w.local.view u i.local_origin i.outgoing same (i.outgoing_holds.sending (knows_iss w.local.view.phase m))),
      ⊎_elim (λ a. inl a) (λ o. inr (record { dead = o.dead; accepted = o.accepted; closed = o.closed; not_sending = λ c. o.not_sending (sym same.phase ∙ c) })) i.local_numbers,
    )

-- a segment comes that acknowledges
pub hears_acknowledgement : (w : Network) (g : StreamSegment) (u : SocketView) → ArrivesYoung w g → KnowsPeer w.local.view.phase → HearsData w.local.view u g → HearsAck w.local.view u g → IsSynchronized u.phase → IsInvariant w → IsInvariant (with_local w (heard_by w.local u))
hears_acknowledgement w g u come m came ack mu i =
    let seg = comes_here w i g come.sent (λ c. subst KnowsPeer c m) in
    heard_keeps w g u i come m came mu (any_ack i.local_origin i.local_acked_origin i.outgoing w.local w.remote (heard_by w.local u) g i.outgoing_holds.sound i.outgoing_holds.fits (i.outgoing_holds.sending (knows_iss w.local.view.phase m)) (seg.ack come.plain) (omega (arith, (is_young w i g come.may).taken, i.outgoing_holds.taken)) i.local_numbers ack)
