-- A connection opens, and falls back to LISTEN.
use Rattle.std.proofs.Common.{◌≡◌, ℕ, ◌+◌, ◌-◌, ◌%◌, ◌^◌, ◌<◌, true, false, refl, sym, ap, subst, ◌∙◌, arith, [], ◌++◌, length, inl, inr, ⊎_elim}
use Rattle.std.specs.List.{Contains}
use Rattle.std.proofs.lemmas.List.{append-nil, nil_from_length}
use Rattle.sock_core.specs.Places.{number_at}
use Rattle.sock_core.proofs.Numbers.{number_add, origin_of}
use Rattle.pair_core.specs.Network.{Network, connected, heard_by, listened, with_local}
use Rattle.pair_core.proofs.NetworkEndpoints.{ArrivesYoung, crossed, fallen_back, synchronizing}
use Rattle.pair_core.specs.NetworkInvariant.{IsInvariant, PhaseAllows}
use Rattle.pair_core.specs.StreamEffects.{HearsAck, SndNxtWithin}
use Rattle.pair_core.specs.StreamViews.{Dead, HasIss, HasNoIss, IsNonSynchronized, Listening, Open, SocketView, StreamSegment, SynReceived, SynSent, Unopened}
use Rattle.pair_core.proofs.NetworkChanges.{changes_keep, comes_here, is_young, keeps_keep, redraw}
use Rattle.pair_core.proofs.StreamAcking.{released_more}
use Rattle.pair_core.proofs.StreamFallBack.{any_ack}
use Rattle.pair_core.proofs.StreamGrowth.{sound_kept, stays}
use Rattle.pair_core.proofs.StreamMatches.{iss_sending, received_nothing_as, sent_self, syn_empty, syn_receiving}
use Rattle.pair_core.proofs.StreamSending.{queue_length}

-- listening begins
pub listens : (w : Network) → w.local.view.phase ≡ Unopened → IsInvariant w → IsInvariant (with_local w (listened w.local))
listens w e i =
    let u : HasNoIss w.local.view.phase = subst HasNoIss (sym e) tt in
    let n : IsNonSynchronized w.local.view.phase = subst IsNonSynchronized (sym e) tt in
    let fresh = i.incoming_holds.nothing_yet n in
    let unused = i.outgoing_holds.unsent u in
    keeps_keep w i (listened w.local) (record {
      accepted = refl;
      closed = refl;
      released = refl;
      taken = refl;
      sending = λ d. absurd d;
      unsent = λ d. record { accepted = unused.accepted; closed = unused.closed; released = unused.released; transmit_queue = unused.transmit_queue };
      receiving = λ d. absurd d;
      delivered = i.incoming_holds.delivered;
      nothing_yet = λ d. received_nothing_as w.local (listened w.local) i.incoming (record { rcv_nxt = refl; receive_queue = refl; held = refl; fin = refl }) refl fresh;
      finished = i.incoming_holds.finished;
      sends = λ c. let no : Listening ≡ Open = c in cc;
      connects_only = λ c. let no : Listening ≡ SynSent = c in cc;
      listener = inr u;
      dead = λ d. cc;
      had_no_iss = λ d. inl u;
      knows = λ d. absurd d;
    })

-- connecting begins
pub connects : (w : Network) (iss : ℕ) → iss < 2 ^ 32 → w.local.view.phase ≡ Unopened → IsInvariant w → IsInvariant (with_local w (connected w.local iss))
connects w iss small e i =
    let u : HasNoIss w.local.view.phase = subst HasNoIss (sym e) tt in
    let n : IsNonSynchronized w.local.view.phase = subst IsNonSynchronized (sym e) tt in
    let r = redraw w i u ((iss + (2 ^ 32 - 1)) % 2 ^ 32) in
    let j = r.0 in
    let fresh = j.incoming_holds.nothing_yet n in
    let unused = j.outgoing_holds.unsent u in
    keeps_keep w j (connected w.local iss) (record {
      accepted = refl;
      closed = refl;
      released = refl;
      taken = refl;
      sending = λ d. iss_sending w.local (connected w.local iss).view j.local_origin iss j.outgoing unused (origin_of iss small ∙ ap (λ o. number_at o 1) (sym r.1)) refl refl refl (inl refl);
      unsent = λ d. absurd d;
      receiving = λ d. absurd d;
      delivered = j.incoming_holds.delivered;
      nothing_yet = λ d. received_nothing_as w.local (connected w.local iss) j.incoming (record { rcv_nxt = refl; receive_queue = refl; held = refl; fin = refl }) refl fresh;
      finished = j.incoming_holds.finished;
      sends = λ c. let no : SynSent ≡ Open = c in cc;
      connects_only = λ c. refl;
      listener = inr u;
      dead = λ d. cc;
      had_no_iss = λ d. absurd d;
      knows = λ d. absurd d;
    })

-- who was heard has chosen an initial sequence number
pub emitter_has_iss : (w : Network) (i : IsInvariant w) (g : StreamSegment) → Contains w.remote_segments g → g.rst ≡ false → (w.local.view.phase ≡ Dead → ⊥) → HasNoIss w.remote.view.phase → ⊥
emitter_has_iss w i g there plain lives u = ⊎_elim (λ a. a.none g there plain) (λ d. lives d) (i.remote_unspoken u)

-- a SYN comes to a side that listens
pub hears_syn : (w : Network) (g : StreamSegment) (iss : ℕ) → iss < 2 ^ 32 → Contains w.remote_segments g → g.rst ≡ false → g.syn ≡ true → w.local.view.phase ≡ Listening → IsInvariant w → IsInvariant (with_local w (synchronizing w.local g iss))
hears_syn w g iss small there plain syn e i =
    let u : HasNoIss w.local.view.phase = subst HasNoIss (sym e) tt in
    let n : IsNonSynchronized w.local.view.phase = subst IsNonSynchronized (sym e) tt in
    let j = redraw w i u ((iss + (2 ^ 32 - 1)) % 2 ^ 32) in
    let fresh = j.0.incoming_holds.nothing_yet n in
    let unused = j.0.outgoing_holds.unsent u in
    keeps_keep w j.0 (synchronizing w.local g iss) (record {
      accepted = refl;
      closed = refl;
      released = refl;
      taken = refl;
      sending = λ d. iss_sending w.local (synchronizing w.local g iss).view j.0.local_origin iss j.0.outgoing unused (origin_of iss small ∙ ap (λ o. number_at o 1) (sym j.1)) refl refl refl (inr refl);
      unsent = λ d. absurd d;
      receiving = λ d. syn_receiving w.local (synchronizing w.local g iss).view j.0.remote_origin j.0.incoming g fresh ((comes_here w j.0 g there (λ c. let no : Listening ≡ Dead = sym e ∙ c in cc)).syn plain syn) refl refl refl refl;
      delivered = j.0.incoming_holds.delivered;
      nothing_yet = λ d. record { joined = fresh.joined; stream_fin = fresh.stream_fin; receive_queue = fresh.receive_queue; handed_out = fresh.handed_out; fin = fresh.fin; held = fresh.held };
      finished = j.0.incoming_holds.finished;
      sends = λ c. let no : SynReceived ≡ Open = c in cc;
      connects_only = λ c. let no : SynReceived ≡ SynSent = c in cc;
      listener = inl refl;
      dead = λ d. cc;
      had_no_iss = λ d. absurd d;
      knows = λ m k. emitter_has_iss w j.0 g there plain (λ c. let no : Listening ≡ Dead = sym e ∙ c in cc) k;
    })

-- a SYN comes to a side that sent its own
pub hears_syn_alone : (w : Network) (g : StreamSegment) (m : ℕ) → SndNxtWithin (record w.local.view { snd_nxt = m }) → Contains w.remote_segments g → g.rst ≡ false → g.syn ≡ true → w.local.view.phase ≡ SynSent → IsInvariant w → IsInvariant (with_local w (crossed w.local g m))
hears_syn_alone w g m nf there plain syn e i =
    let n : IsNonSynchronized w.local.view.phase = subst IsNonSynchronized (sym e) tt in
    let fresh = i.incoming_holds.nothing_yet n in
    let t = i.outgoing_holds.sending (subst HasIss (sym e) tt) in
    let says : (t.place ≡ 1) × (i.outgoing.closed ≡ false) = subst (λ p. PhaseAllows p i.outgoing t.place) e t.phase in
    keeps_keep w i (crossed w.local g m) (record {
      accepted = refl;
      closed = refl;
      released = refl;
      taken = refl;
      sending = λ d. record {
        place = t.place;
        snd_una = t.snd_una;
        acked = t.acked;
        flight = nf.flight;
        snd_nxt = nf.is ∙ ap (λ k. (k + nf.flight) % 2 ^ 32) t.snd_una ∙ number_add i.local_origin t.place nf.flight;
        flight_le = nf.le;
        queue = t.queue;
        at = inl (says.0, syn_empty w.local.view i.outgoing t.place says.0 t.at);
        phase = says;
      };
      unsent = λ d. absurd d;
      receiving = λ d. syn_receiving w.local (crossed w.local g m).view i.remote_origin i.incoming g fresh ((comes_here w i g there (λ c. let no : SynSent ≡ Dead = sym e ∙ c in cc)).syn plain syn) refl refl refl refl;
      delivered = i.incoming_holds.delivered;
      nothing_yet = λ d. record { joined = fresh.joined; stream_fin = fresh.stream_fin; receive_queue = fresh.receive_queue; handed_out = fresh.handed_out; fin = fresh.fin; held = fresh.held };
      finished = i.incoming_holds.finished;
      sends = λ c. let no : SynReceived ≡ Open = c in cc;
      connects_only = λ c. let no : SynReceived ≡ SynSent = c in cc;
      listener = inl refl;
      dead = λ d. cc;
      had_no_iss = λ d. absurd d;
      knows = λ known k. emitter_has_iss w i g there plain (λ c. let no : SynSent ≡ Dead = sym e ∙ c in cc) k;
    })

-- a SYN comes that acknowledges the own one
pub hears_syn_ack : (w : Network) (g : StreamSegment) (u : SocketView) → ArrivesYoung w g → g.syn ≡ true → w.local.view.phase ≡ SynSent → HearsAck w.local.view u g → u.phase ≡ Open → u.rcv_nxt ≡ (g.seq + 1) % 2 ^ 32 → u.receive_queue ≡ w.local.view.receive_queue → u.held ≡ w.local.view.held → u.fin_counted ≡ w.local.view.fin_counted → IsInvariant w → IsInvariant (with_local w (heard_by w.local u))
hears_syn_ack w g u come syn e ack to l r k fin i =
    let n : IsNonSynchronized w.local.view.phase = subst IsNonSynchronized (sym e) tt in
    let fresh = i.incoming_holds.nothing_yet n in
    let seg = comes_here w i g come.sent (λ c. let no : SynSent ≡ Dead = sym e ∙ c in cc) in
    let t = i.outgoing_holds.sending (subst HasIss (sym e) tt) in
    let young = is_young w i g come.may in
    let a = any_ack i.local_origin i.local_acked_origin i.outgoing w.local w.remote (heard_by w.local u) g i.outgoing_holds.sound i.outgoing_holds.fits t (seg.ack come.plain) (omega (arith, young.taken, i.outgoing_holds.taken)) i.local_numbers ack in
    let sound' = sound_kept i.outgoing (released_more i.outgoing a.0) i.outgoing_holds.sound a.1 in
    let r' = syn_receiving w.local u i.remote_origin i.incoming g fresh (seg.syn come.plain syn) l r k fin in
    changes_keep w i (heard_by w.local u) (record {
      outgoing = released_more i.outgoing a.0;
      incoming = i.incoming;
      outgoing_grows = a.1;
      incoming_grows = stays i.incoming;
      outgoing_received = record { joined = refl; held = refl; fin = refl };
      incoming_sent = sent_self i.incoming;
      within = i.local_within;
      fits = record { room = omega (arith, i.outgoing_holds.fits.room) };
      accepted = i.outgoing_holds.accepted;
      closed = i.outgoing_holds.closed;
      released = omega (arith, i.outgoing_holds.released, queue_length i.local_origin i.outgoing w.local.view i.outgoing_holds.sound t, queue_length i.local_origin (released_more i.outgoing a.0) u sound' a.2);
      sending = λ d. a.2;
      unsent = λ d. absurd (subst HasNoIss to d);
      receiving = λ d. record { rcv_nxt = r'.rcv_nxt; fin = r'.fin; held = r'.held; queue = r'.queue };
      delivered = ([], append-nil (w.local.handed_out ++ u.receive_queue) ∙ r'.queue);
      nothing_yet = λ d. absurd (subst IsNonSynchronized to d);
      finished = λ d. let no : true ≡ false = sym d ∙ fin ∙ fresh.fin in cc;
      taken = omega (arith, i.incoming_holds.taken, ap length r);
      numbers = a.3;
      connects_only = λ c. let no : Open ≡ SynSent = sym to ∙ c in cc;
      listener = inl refl;
      dead = λ d. let no : SynSent ≡ Dead = sym e ∙ d in cc;
      had_no_iss = λ d. absurd (subst HasNoIss to d);
      knows = λ m q. emitter_has_iss w i g come.sent come.plain (λ c. let no : SynSent ≡ Dead = sym e ∙ c in cc) q;
    })

-- an RST sends the side back to LISTEN
pub falls_back : (w : Network) (g : StreamSegment) → Contains w.remote_segments g → g.rst ≡ true → w.local.view.phase ≡ SynReceived → w.local.listener ≡ true → IsInvariant w → IsInvariant (with_local w (fallen_back w.local))
falls_back w g there reset e listens i =
    let n : IsNonSynchronized w.local.view.phase = subst IsNonSynchronized (sym e) tt in
    let fresh = i.incoming_holds.nothing_yet n in
    let d : HasIss w.local.view.phase = subst HasIss (sym e) tt in
    let t = i.outgoing_holds.sending d in
    let says : (t.place ≡ 1) × (i.outgoing.closed ≡ false) = subst (λ p. PhaseAllows p i.outgoing t.place) e t.phase in
    let y_dead : w.remote.view.phase ≡ Dead = ⊎_elim (λ d. d) (λ l. let no : true ≡ false = sym listens ∙ l.0 in cc) ((comes_here w i g there (λ c. let no : SynReceived ≡ Dead = sym e ∙ c in cc)).reset reset) in
    let len = queue_length i.local_origin i.outgoing w.local.view i.outgoing_holds.sound t in
    let empty : i.outgoing.accepted ≡ [] = syn_empty w.local.view i.outgoing t.place says.0 t.at in
    keeps_keep w i (fallen_back w.local) (record {
      accepted = refl;
      closed = refl;
      released = refl;
      taken = refl;
      sending = λ d. absurd d;
      unsent = λ d. record { accepted = empty; closed = says.1; released = omega (arith, len, ap length empty); transmit_queue = nil_from_length w.local.view.transmit_queue (omega (arith, len, ap length empty)) };
      receiving = λ m. absurd m;
      delivered = i.incoming_holds.delivered;
      nothing_yet = λ d. received_nothing_as w.local (fallen_back w.local) i.incoming (record { rcv_nxt = refl; receive_queue = refl; held = refl; fin = refl }) refl fresh;
      finished = i.incoming_holds.finished;
      sends = λ c. let no : Listening ≡ Open = c in cc;
      connects_only = λ c. let no : Listening ≡ SynSent = c in cc;
      listener = inl refl;
      dead = λ d. let no : SynReceived ≡ Dead = sym e ∙ d in cc;
      had_no_iss = λ d. inr y_dead;
      knows = λ m k. absurd m;
    })
