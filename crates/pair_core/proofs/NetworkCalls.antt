-- The calls of one side: send, recv, close, and its death.
use Rattle.std.proofs.Common.{◌≡◌, ℕ, zero, suc, ◌+◌, ◌%◌, ◌^◌, ◌≤◌, ◌⊎◌, true, false, refl, sym, ap, subst, ◌∙◌, arith, List, [], ◌++◌, length, drop, take, inl, inr, ⊎_elim, append_assoc, take-append-drop, length-append}
use Rattle.std.proofs.lemmas.List.{drop-append-le, append-nil}
use Rattle.sock_core.proofs.Numbers.{number_add}
use Rattle.sock_core.proofs.Streams.{prefix_self}
use Rattle.pair_core.specs.Network.{IsWithin, Network, closed_after, closed_unacknowledged, with_accepted, with_local, with_read, with_view}
use Rattle.pair_core.proofs.NetworkEndpoints.{with_snd_nxt}
use Rattle.pair_core.specs.NetworkInvariant.{IsInvariant, PhaseAllows}
use Rattle.pair_core.specs.StreamEffects.{SndNxtWithin}
use Rattle.pair_core.specs.StreamModel.{Stream}
use Rattle.pair_core.specs.StreamViews.{FinQueued, Dead, HasIss, HasNoIss, IsNonSynchronized, KnowsPeer, Open, SocketView, SynReceived, SynSent}
use Rattle.pair_core.proofs.NetworkChanges.{changes_keep, keeps_keep, remote_has_iss}
use Rattle.pair_core.proofs.NetworkPhases.{no_iss_not_iss}
use Rattle.pair_core.proofs.StreamGrowth.{sender_grows, stays}
use Rattle.pair_core.proofs.StreamMatches.{received_nothing_as, receiving_view, sending_view, sent_self, syn_empty}
use Rattle.pair_core.proofs.StreamSending.{queue_length, released_le}

-- send takes bytes
pub accepts : (w : Network) (bs : List ℕ) → w.local.view.phase ≡ Open → length w.local.view.transmit_queue + length bs ≤ 2 ^ 30 → IsWithin w.limit (w.local.accepted ++ bs) → IsInvariant w → IsInvariant (with_local w (with_accepted w.local bs))
accepts w bs e small within i =
    let d : HasIss w.local.view.phase = subst HasIss (sym e) tt in
    let t = i.outgoing_holds.sending d in
    let says : (t.place ≡ i.outgoing.released + 2) × (i.outgoing.closed ≡ false) = subst (λ p. PhaseAllows p i.outgoing t.place) e t.phase in
    let longer : Stream = record i.outgoing { accepted = i.outgoing.accepted ++ bs } in
    let is : i.outgoing.accepted ++ bs ≡ w.local.accepted ++ bs = ap (λ xs. xs ++ bs) i.outgoing_holds.accepted in
    let fits : length (i.outgoing.accepted ++ bs) ≤ i.outgoing.released + 2 ^ 30 = omega (arith, length-append i.outgoing.accepted bs, queue_length i.local_origin i.outgoing w.local.view i.outgoing_holds.sound t) in
    let open_yet : i.outgoing.closed ≡ true → ⊥ = λ c. let no : true ≡ false = sym c ∙ says.1 in cc in
    changes_keep w i (with_accepted w.local bs) (record {
      outgoing = longer;
      incoming = i.incoming;
      outgoing_grows = sender_grows i.outgoing (i.outgoing.accepted ++ bs) i.outgoing.closed i.outgoing.released (bs, refl) (λ c. absurd (open_yet c)) (inl refl);
      incoming_grows = stays i.incoming;
      outgoing_received = record { joined = refl; held = refl; fin = refl };
      incoming_sent = sent_self i.incoming;
      within = within;
      fits = record { room = fits };
      accepted = is;
      closed = i.outgoing_holds.closed;
      released = i.outgoing_holds.released;
      sending = λ k. record {
        place = t.place;
        snd_una = t.snd_una;
        acked = t.acked;
        flight = t.flight;
        snd_nxt = t.snd_nxt;
        flight_le = omega (arith, t.flight_le, length-append w.local.view.transmit_queue bs);
        queue = ap (λ xs. xs ++ bs) t.queue ∙ sym (drop-append-le i.outgoing.released i.outgoing.accepted bs (released_le i.local_origin i.outgoing w.local.view i.outgoing_holds.sound t));
        at = inr (inl says.0);
        phase = subst (λ p. PhaseAllows p longer t.place) (sym e) says;
      };
      unsent = λ k. absurd (no_iss_not_iss w.local.view.phase k d);
      receiving = λ k. receiving_view w.local.view (with_accepted w.local bs).view w.local.handed_out i.remote_origin i.incoming (record { rcv_nxt = refl; receive_queue = refl; held = refl; fin = refl }) (i.incoming_holds.receiving k);
      delivered = i.incoming_holds.delivered;
      nothing_yet = λ k. received_nothing_as w.local (with_accepted w.local bs) i.incoming (record { rcv_nxt = refl; receive_queue = refl; held = refl; fin = refl }) refl (i.incoming_holds.nothing_yet k);
      finished = i.incoming_holds.finished;
      taken = i.incoming_holds.taken;
      numbers = ⊎_elim (λ a. inl a) (λ o. absurd (o.not_sending e)) i.local_numbers;
      connects_only = λ c. i.local_connects c;
      listener = inl refl;
      dead = λ k. k;
      had_no_iss = λ k. inl k;
      knows = λ m u. remote_has_iss w i m u;
    })

-- nothing is taken of an empty queue
take_nil : (n : ℕ) (xs : List ℕ) → xs ≡ [] → take n xs ≡ []
take_nil zero xs e = refl
take_nil (suc n) xs e = ap (take (suc n)) e

-- and nothing is left of it
drop_nil : (n : ℕ) (xs : List ℕ) → xs ≡ [] → drop n xs ≡ []
drop_nil zero xs e = e
drop_nil (suc n) xs e = ap (drop (suc n)) e

-- recv gives out bytes
pub hands_out : (w : Network) (n : ℕ) → IsInvariant w → IsInvariant (with_local w (with_read w.local n))
hands_out w n i =
    let queue : List ℕ = w.local.view.receive_queue in
    let same : (w.local.handed_out ++ take n queue) ++ drop n queue ≡ w.local.handed_out ++ queue = append_assoc w.local.handed_out (take n queue) (drop n queue) ∙ ap (λ xs. w.local.handed_out ++ xs) (take-append-drop n queue) in
    keeps_keep w i (with_read w.local n) (record {
      accepted = refl;
      closed = refl;
      released = refl;
      taken = refl;
      sending = λ d. sending_view w.local.view (with_read w.local n).view i.local_origin i.outgoing (record { phase = refl; snd_una = refl; snd_nxt = refl; transmit_queue = refl }) (i.outgoing_holds.sending d);
      unsent = λ d. let r = i.outgoing_holds.unsent d in record { accepted = r.accepted; closed = r.closed; released = r.released; transmit_queue = r.transmit_queue };
      receiving = λ m. let r = i.incoming_holds.receiving m in record { rcv_nxt = r.rcv_nxt; fin = r.fin; held = r.held; queue = same ∙ r.queue };
      delivered = (i.incoming_holds.delivered.0, ap (λ xs. xs ++ i.incoming_holds.delivered.0) same ∙ i.incoming_holds.delivered.1);
      nothing_yet = λ d. let r = i.incoming_holds.nothing_yet d in record { joined = r.joined; stream_fin = r.stream_fin; receive_queue = drop_nil n queue r.receive_queue; handed_out = (λ j. r.handed_out j ++ take_nil n queue r.receive_queue j); fin = r.fin; held = r.held };
      finished = λ c. let r = i.incoming_holds.finished c in (r.0, same ∙ r.1);
      sends = λ c. c;
      connects_only = λ c. i.local_connects c;
      listener = inl refl;
      dead = λ d. d;
      had_no_iss = λ d. inl d;
      knows = λ m u. remote_has_iss w i m u;
    })

-- close ends the stream
pub closes : (w : Network) → w.local.view.phase ≡ Open → IsInvariant w → IsInvariant (with_local w (closed_after w.local))
closes w e i =
    let d : HasIss w.local.view.phase = subst HasIss (sym e) tt in
    let m : KnowsPeer w.local.view.phase = subst KnowsPeer (sym e) tt in
    let t = i.outgoing_holds.sending d in
    let says : (t.place ≡ i.outgoing.released + 2) × (i.outgoing.closed ≡ false) = subst (λ p. PhaseAllows p i.outgoing t.place) e t.phase in
    changes_keep w i (closed_after w.local) (record {
      outgoing = record i.outgoing { closed = true };
      incoming = i.incoming;
      outgoing_grows = sender_grows i.outgoing i.outgoing.accepted true i.outgoing.released (prefix_self i.outgoing.accepted) (λ c. (refl, refl)) (inl refl);
      incoming_grows = stays i.incoming;
      outgoing_received = record { joined = refl; held = refl; fin = refl };
      incoming_sent = sent_self i.incoming;
      within = i.local_within;
      fits = record { room = omega (arith, i.outgoing_holds.fits.room) };
      accepted = i.outgoing_holds.accepted;
      closed = refl;
      released = i.outgoing_holds.released;
      sending = λ k. record { place = t.place; snd_una = t.snd_una; acked = t.acked; flight = t.flight; snd_nxt = t.snd_nxt; flight_le = t.flight_le; queue = t.queue; at = inr (inl says.0); phase = inr (says.0, refl) };
      unsent = λ k. absurd k;
      receiving = λ k. receiving_view w.local.view (closed_after w.local).view w.local.handed_out i.remote_origin i.incoming (record { rcv_nxt = refl; receive_queue = refl; held = refl; fin = refl }) (i.incoming_holds.receiving m);
      delivered = i.incoming_holds.delivered;
      nothing_yet = λ k. absurd k;
      finished = i.incoming_holds.finished;
      taken = i.incoming_holds.taken;
      numbers = ⊎_elim (λ a. inl a) (λ o. absurd (o.not_sending e)) i.local_numbers;
      connects_only = λ c. let no : FinQueued ≡ SynSent = c in cc;
      listener = inl refl;
      dead = λ k. cc;
      had_no_iss = λ k. absurd k;
      knows = λ k u. remote_has_iss w i m u;
    })

-- close before the own SYN is acknowledged ends nothing
pub closes_unacknowledged : (w : Network) → w.local.view.phase ≡ SynReceived → IsInvariant w → IsInvariant (with_local w (closed_unacknowledged w.local))
closes_unacknowledged w e i =
    let d : HasIss w.local.view.phase = subst HasIss (sym e) tt in
    let m : KnowsPeer w.local.view.phase = subst KnowsPeer (sym e) tt in
    let t = i.outgoing_holds.sending d in
    let says : (t.place ≡ 1) × (i.outgoing.closed ≡ false) = subst (λ p. PhaseAllows p i.outgoing t.place) e t.phase in
    keeps_keep w i (closed_unacknowledged w.local) (record {
      accepted = refl;
      closed = refl;
      released = refl;
      taken = refl;
      sending = λ k. record { place = t.place; snd_una = t.snd_una; acked = t.acked; flight = t.flight; snd_nxt = t.snd_nxt; flight_le = t.flight_le; queue = t.queue; at = inl (says.0, syn_empty w.local.view i.outgoing t.place says.0 t.at); phase = inl says };
      unsent = λ k. absurd k;
      receiving = λ k. receiving_view w.local.view (closed_unacknowledged w.local).view w.local.handed_out i.remote_origin i.incoming (record { rcv_nxt = refl; receive_queue = refl; held = refl; fin = refl }) (i.incoming_holds.receiving m);
      delivered = i.incoming_holds.delivered;
      nothing_yet = λ k. absurd k;
      finished = i.incoming_holds.finished;
      sends = λ c. let no : FinQueued ≡ Open = c in cc;
      connects_only = λ c. let no : FinQueued ≡ SynSent = c in cc;
      listener = inl refl;
      dead = λ k. cc;
      had_no_iss = λ k. absurd k;
      knows = λ k u. remote_has_iss w i m u;
    })

-- a side that is CLOSED keeps its receive queue or loses it
pub dies : (w : Network) (u : SocketView) → u.phase ≡ Dead → (u.receive_queue ≡ w.local.view.receive_queue) ⊎ (u.receive_queue ≡ []) → (u.fin_counted ≡ true → (w.local.view.fin_counted ≡ true) × (u.receive_queue ≡ w.local.view.receive_queue)) → IsInvariant w → IsInvariant (with_local w (with_view w.local u))
dies w u e kept fin i =
    keeps_keep w i (with_view w.local u) (record {
      accepted = refl;
      closed = refl;
      released = refl;
      taken = refl;
      sending = λ d. absurd (subst HasIss e d);
      unsent = λ d. absurd (subst HasNoIss e d);
      receiving = λ m. absurd (subst KnowsPeer e m);
      delivered = ⊎_elim
          (λ r. (i.incoming_holds.delivered.0, ap (λ xs. (w.local.handed_out ++ xs) ++ i.incoming_holds.delivered.0) r ∙ i.incoming_holds.delivered.1))
          (λ r. (w.local.view.receive_queue ++ i.incoming_holds.delivered.0, ap (λ xs. (w.local.handed_out ++ xs) ++ (w.local.view.receive_queue ++ i.incoming_holds.delivered.0)) r ∙ ap (λ xs. xs ++ (w.local.view.receive_queue ++ i.incoming_holds.delivered.0)) (append-nil w.local.handed_out) ∙ sym (append_assoc w.local.handed_out w.local.view.receive_queue i.incoming_holds.delivered.0) ∙ i.incoming_holds.delivered.1))
          kept;
      nothing_yet = λ d. absurd (subst IsNonSynchronized e d);
      finished = λ c. let k = fin c in let r = i.incoming_holds.finished k.0 in (r.0, ap (λ xs. w.local.handed_out ++ xs) k.1 ∙ r.1);
      sends = λ c. let no : Dead ≡ Open = sym e ∙ c in cc;
      connects_only = λ c. let no : Dead ≡ SynSent = sym e ∙ c in cc;
      listener = inl refl;
      dead = λ d. e;
      had_no_iss = λ d. absurd (subst HasNoIss e d);
      knows = λ m k. absurd (subst KnowsPeer e m);
    })

-- SND.NXT moves
pub moves_snd_nxt : (w : Network) (n : ℕ) → (HasIss w.local.view.phase → SndNxtWithin (record w.local.view { snd_nxt = n })) → IsInvariant w → IsInvariant (with_local w (with_snd_nxt w.local n))
moves_snd_nxt w n within i =
    keeps_keep w i (with_snd_nxt w.local n) (record {
      accepted = refl;
      closed = refl;
      released = refl;
      taken = refl;
      sending = λ d. let t = i.outgoing_holds.sending d in let nf = within d in record { place = t.place; snd_una = t.snd_una; acked = t.acked; flight = nf.flight; snd_nxt = nf.is ∙ ap (λ m. (m + nf.flight) % 2 ^ 32) t.snd_una ∙ number_add i.local_origin t.place nf.flight; flight_le = nf.le; queue = t.queue; at = t.at; phase = t.phase };
      unsent = λ d. let r = i.outgoing_holds.unsent d in record { accepted = r.accepted; closed = r.closed; released = r.released; transmit_queue = r.transmit_queue };
      receiving = λ m. receiving_view w.local.view (with_snd_nxt w.local n).view w.local.handed_out i.remote_origin i.incoming (record { rcv_nxt = refl; receive_queue = refl; held = refl; fin = refl }) (i.incoming_holds.receiving m);
      delivered = i.incoming_holds.delivered;
      nothing_yet = λ d. received_nothing_as w.local (with_snd_nxt w.local n) i.incoming (record { rcv_nxt = refl; receive_queue = refl; held = refl; fin = refl }) refl (i.incoming_holds.nothing_yet d);
      finished = i.incoming_holds.finished;
      sends = λ c. c;
      connects_only = λ c. i.local_connects c;
      listener = inl refl;
      dead = λ d. d;
      had_no_iss = λ d. inl d;
      knows = λ m u. remote_has_iss w i m u;
    })
