-- What is to be shown of a step that changes the local side.
use Rattle.std.proofs.Common.{◌≡◌, ℕ, ◌≤◌, ◌⊎◌, true, false, refl, sym, ap, subst, ◌∙◌, arith, List, [], ◌++◌, length, Some, None, inl, inr, ⊎_elim}
use Rattle.std.specs.List.{Contains}
use Rattle.std.proofs.lemmas.List.Elements.{Contains-push_cases}
use Rattle.std.specs.declared.option.Option.{Option}
use Rattle.sock_core.specs.Streams.{IsPrefix}
use Rattle.sock_core.proofs.Streams.{le_from_at}
use Rattle.pair_core.specs.Network.{Endpoint, IsWithin, IsYoung, MayArrive, Network, emitted, with_local}
use Rattle.pair_core.specs.NetworkInvariant.{HasFallenBack, HasReceivedNothing, HasSentNothing, IsInvariant, IsLimit, IsTrueSegment, QueueFits, ReceivingMatches, SameNumbers, SendingMatches, StreamInvariant}
use Rattle.pair_core.specs.StreamModel.{Grows, Stream}
use Rattle.pair_core.specs.StreamViews.{Dead, HasIss, HasNoIss, IsNonSynchronized, KnowsPeer, Open, StreamSegment, SynSent}
use Rattle.pair_core.proofs.NetworkPhases.{dec_dead, no_iss_not_iss, no_iss_not_sending}
use Rattle.pair_core.proofs.StreamGrowth.{ack_kept, counted_le, payload_kept, sound_kept, stays}
use Rattle.pair_core.proofs.StreamMatches.{SameReceived, SameSent, received_nothing_same, received_self, receiving_same, sending_same, sent_nothing_same, sent_self}

-- a true segment stays true, where the streams grow and a side that is CLOSED for good stays so
pub segment_kept : (x y z u : Endpoint) (g : StreamSegment) (ox oy : ℕ) (f h f' h' : Stream) → Grows f f' → Grows h h' → ((x.view.phase ≡ Dead) ⊎ ((y.listener ≡ false) × (HasNoIss y.view.phase → ⊥)) → (z.view.phase ≡ Dead) ⊎ ((u.listener ≡ false) × (HasNoIss u.view.phase → ⊥))) → IsTrueSegment x y g ox oy f h → IsTrueSegment z u g ox oy f' h'
segment_kept x y z u g ox oy f h f' h' mf mh dead t = record {
  reset = λ e. dead (t.reset e);
  payload = λ e. let p = t.payload e in record { placed = p.placed; seq = p.seq; bytes = p.bytes; fin = p.fin; holds = payload_kept f f' p.placed mf p.holds; since = p.since };
  ack = λ e. record { says = λ a is. let k = (t.ack e).says a is in (k.0, k.1, ack_kept h h' k.0 mh k.2, k.3) };
  syn = t.syn;
}

-- what is to be shown where the local side becomes z
pub record Changes (w : Network) (i : IsInvariant w) (z : Endpoint) : Type 0 where
  pub outgoing : Stream
  pub incoming : Stream
  pub outgoing_grows : Grows i.outgoing outgoing
  pub incoming_grows : Grows i.incoming incoming
  pub outgoing_received : SameReceived i.outgoing outgoing
  pub incoming_sent : SameSent i.incoming incoming
  pub fits : QueueFits outgoing
  pub within : IsWithin w.limit z.accepted
  pub accepted : outgoing.accepted ≡ z.accepted
  pub closed : outgoing.closed ≡ z.closed
  pub released : outgoing.released ≡ z.released
  pub sending : HasIss z.view.phase → SendingMatches z.view i.local_origin outgoing
  pub unsent : HasNoIss z.view.phase → HasSentNothing z outgoing
  pub receiving : KnowsPeer z.view.phase → ReceivingMatches z.view z.handed_out i.remote_origin incoming
  pub delivered : IsPrefix (z.handed_out ++ z.view.receive_queue) incoming.joined
  pub nothing_yet : IsNonSynchronized z.view.phase → HasReceivedNothing z incoming
  pub finished : z.view.fin_counted ≡ true → (incoming.fin_counted ≡ true) × (z.handed_out ++ z.view.receive_queue ≡ incoming.joined)
  pub taken : z.taken ≡ length incoming.joined
  pub numbers : SameNumbers i.local_acked_origin i.local_origin ⊎ HasFallenBack z w.remote outgoing
  pub dead : w.local.view.phase ≡ Dead → z.view.phase ≡ Dead
  pub had_no_iss : HasNoIss z.view.phase → HasNoIss w.local.view.phase ⊎ (w.remote.view.phase ≡ Dead)
  pub knows : KnowsPeer z.view.phase → HasNoIss w.remote.view.phase → ⊥
  pub connects_only : z.view.phase ≡ SynSent → z.listener ≡ false
  pub listener : (z.listener ≡ w.local.listener) ⊎ HasNoIss w.local.view.phase

-- then the invariant is kept
pub changes_keep : (w : Network) (i : IsInvariant w) (z : Endpoint) → Changes w i z → IsInvariant (with_local w z)
changes_keep w i z c = record {
  local_origin = i.local_origin;
  remote_origin = i.remote_origin;
  local_acked_origin = i.local_acked_origin;
  remote_acked_origin = i.remote_acked_origin;
  outgoing = c.outgoing;
  incoming = c.incoming;
  outgoing_holds = record {
    sound = sound_kept i.outgoing c.outgoing i.outgoing_holds.sound c.outgoing_grows;
    fits = c.fits;
    accepted = c.accepted;
    closed = c.closed;
    released = c.released;
    sending = c.sending;
    receiving = λ m. receiving_same w.remote.view w.remote.handed_out i.local_origin i.outgoing c.outgoing c.outgoing_received (i.outgoing_holds.receiving m);
    delivered = (i.outgoing_holds.delivered.0, i.outgoing_holds.delivered.1 ∙ sym c.outgoing_received.joined);
    nothing_yet = λ u. received_nothing_same w.remote i.outgoing c.outgoing c.outgoing_received (i.outgoing_holds.nothing_yet u);
    finished = λ e. let r = i.outgoing_holds.finished e in (c.outgoing_received.fin ∙ r.0, r.1 ∙ sym c.outgoing_received.joined);
    taken = i.outgoing_holds.taken ∙ ap length (sym c.outgoing_received.joined);
    unsent = c.unsent;
  };
  incoming_holds = record {
    sound = sound_kept i.incoming c.incoming i.incoming_holds.sound c.incoming_grows;
    fits = record { room = omega (arith, ap length c.incoming_sent.accepted, c.incoming_sent.released, i.incoming_holds.fits.room) };
    accepted = c.incoming_sent.accepted ∙ i.incoming_holds.accepted;
    closed = c.incoming_sent.closed ∙ i.incoming_holds.closed;
    released = c.incoming_sent.released ∙ i.incoming_holds.released;
    sending = λ d. sending_same w.remote.view i.remote_origin i.incoming c.incoming c.incoming_sent (counted_le i.incoming c.incoming c.incoming_grows) (i.incoming_holds.sending d);
    receiving = c.receiving;
    delivered = c.delivered;
    nothing_yet = c.nothing_yet;
    finished = c.finished;
    taken = c.taken;
    unsent = λ u. sent_nothing_same w.remote i.incoming c.incoming c.incoming_sent (i.incoming_holds.unsent u);
  };
  local_true = λ g m. ⊎_elim (λ d. inl d) (λ t. inr (segment_kept w.local w.remote z w.remote g i.local_origin i.remote_acked_origin i.outgoing i.incoming c.outgoing c.incoming c.outgoing_grows c.incoming_grows (λ q. ⊎_elim (λ d. inl (c.dead d)) (λ l. inr l) q) t)) (i.local_true g m);
  remote_true = λ g m. ⊎_elim (λ d. inl (c.dead d)) (λ t. inr (segment_kept w.remote w.local w.remote z g i.remote_origin i.local_acked_origin i.incoming i.outgoing c.incoming c.outgoing c.incoming_grows c.outgoing_grows (λ q. ⊎_elim (λ d. inl d) (λ l. past l) q) t)) (i.remote_true g m);
  local_numbers = c.numbers;
  remote_numbers = ⊎_elim (λ a. inl a) (λ o. inr (record { dead = c.dead o.dead; accepted = c.incoming_sent.accepted ∙ o.accepted; closed = c.incoming_sent.closed ∙ o.closed; not_sending = o.not_sending })) i.remote_numbers;
  local_unspoken = λ u. ⊎_elim (λ b. i.local_unspoken b) (λ d. inr d) (c.had_no_iss u);
  remote_unspoken = λ u. ⊎_elim (λ a. inl (record { none = a.none; unknown = λ m. c.knows m u; unacked = a.unacked })) (λ d. inr (c.dead d)) (i.remote_unspoken u);
  local_connects = c.connects_only;
  remote_connects = i.remote_connects;
  limited = i.limited;
  local_within = c.within;
  remote_within = i.remote_within;
}
  where
    past : (w.local.listener ≡ false) × (HasNoIss w.local.view.phase → ⊥) → (w.remote.view.phase ≡ Dead) ⊎ ((z.listener ≡ false) × (HasNoIss z.view.phase → ⊥))
    past l = dec_dead w.remote.view.phase (λ alive. (⊎_elim (λ e. e ∙ l.0) (λ u. absurd (l.1 u)) c.listener, λ u. ⊎_elim (λ b. l.1 b) (λ d. alive d) (c.had_no_iss u)))

-- what is to be shown of a step that changes neither stream, where the local side becomes z
pub record Keeps (w : Network) (i : IsInvariant w) (z : Endpoint) : Type 0 where
  pub accepted : z.accepted ≡ w.local.accepted
  pub closed : z.closed ≡ w.local.closed
  pub released : z.released ≡ w.local.released
  pub taken : z.taken ≡ w.local.taken
  pub sending : HasIss z.view.phase → SendingMatches z.view i.local_origin i.outgoing
  pub unsent : HasNoIss z.view.phase → HasSentNothing z i.outgoing
  pub receiving : KnowsPeer z.view.phase → ReceivingMatches z.view z.handed_out i.remote_origin i.incoming
  pub delivered : IsPrefix (z.handed_out ++ z.view.receive_queue) i.incoming.joined
  pub nothing_yet : IsNonSynchronized z.view.phase → HasReceivedNothing z i.incoming
  pub finished : z.view.fin_counted ≡ true → (i.incoming.fin_counted ≡ true) × (z.handed_out ++ z.view.receive_queue ≡ i.incoming.joined)
  pub sends : z.view.phase ≡ Open → w.local.view.phase ≡ Open
  pub dead : w.local.view.phase ≡ Dead → z.view.phase ≡ Dead
  pub had_no_iss : HasNoIss z.view.phase → HasNoIss w.local.view.phase ⊎ (w.remote.view.phase ≡ Dead)
  pub knows : KnowsPeer z.view.phase → HasNoIss w.remote.view.phase → ⊥
  pub connects_only : z.view.phase ≡ SynSent → z.listener ≡ false
  pub listener : (z.listener ≡ w.local.listener) ⊎ HasNoIss w.local.view.phase

-- the side of a fall-back may change as long as it does not begin to send
pub fallen_back_keeps : (x y z : Endpoint) (f : Stream) (a o : ℕ) → (z.view.phase ≡ Open → x.view.phase ≡ Open) → SameNumbers a o ⊎ HasFallenBack x y f → SameNumbers a o ⊎ HasFallenBack z y f
fallen_back_keeps x y z f a o sends = ⊎_elim (λ same. inl same) (λ b. inr (record { dead = b.dead; accepted = b.accepted; closed = b.closed; not_sending = λ c. b.not_sending (sends c) }))

-- then the invariant is kept
pub keeps_keep : (w : Network) (i : IsInvariant w) (z : Endpoint) → Keeps w i z → IsInvariant (with_local w z)
keeps_keep w i z k = changes_keep w i z (record {
  outgoing = i.outgoing;
  incoming = i.incoming;
  outgoing_grows = stays i.outgoing;
  incoming_grows = stays i.incoming;
  outgoing_received = received_self i.outgoing;
  incoming_sent = sent_self i.incoming;
  fits = i.outgoing_holds.fits;
  within = subst (IsWithin w.limit) (sym k.accepted) i.local_within;
  accepted = i.outgoing_holds.accepted ∙ sym k.accepted;
  closed = i.outgoing_holds.closed ∙ sym k.closed;
  released = i.outgoing_holds.released ∙ sym k.released;
  sending = k.sending;
  unsent = k.unsent;
  receiving = k.receiving;
  delivered = k.delivered;
  nothing_yet = k.nothing_yet;
  finished = k.finished;
  taken = k.taken ∙ i.incoming_holds.taken;
  numbers = fallen_back_keeps w.local w.remote z i.outgoing i.local_acked_origin i.local_origin k.sends i.local_numbers;
  dead = k.dead;
  had_no_iss = k.had_no_iss;
  knows = k.knows;
  connects_only = k.connects_only;
  listener = k.listener;
})

-- no segment is in an empty list
pub none_in : (gs : List StreamSegment) (g : StreamSegment) → gs ≡ [] → Contains gs g → ⊥
none_in gs g e c = omega (arith, ap length e, c.1)

-- a side that has no initial number may choose any
pub redraw : (w : Network) (i : IsInvariant w) → HasNoIss w.local.view.phase → (o : ℕ) → (j : IsInvariant w) × (j.local_origin ≡ o)
redraw w i u o = ⊎_elim {C = (j : IsInvariant w) × (j.local_origin ≡ o)}
    (λ none. (
      record i {
        local_origin = o;
        local_acked_origin = o;
        outgoing_holds = redrawn none.unknown;
        local_true = λ g m. ⊎_elim (λ d. inl d) (λ t. inr (record { reset = t.reset; payload = λ e. absurd (none.none g m e); ack = t.ack; syn = λ e. absurd (none.none g m e) })) (i.local_true g m);
        remote_true = λ g m. ⊎_elim (λ d. inl d) (λ t. inr (record { reset = t.reset; payload = t.payload; ack = λ e. record { says = λ a is. absurd (none.unacked g m e a is) }; syn = t.syn })) (i.remote_true g m);
        local_numbers = inl (λ c. refl);
      },
      refl,
    ))
    (λ dead. (
      record i {
        local_origin = o;
        outgoing_holds = redrawn (λ m. subst KnowsPeer dead m);
        local_true = λ g m. inl dead;
        local_numbers = inr (record { dead = dead; accepted = (i.outgoing_holds.unsent u).accepted; closed = (i.outgoing_holds.unsent u).closed; not_sending = no_iss_not_sending w.local.view.phase u });
      },
      refl,
    ))
    (i.local_unspoken u)
  where
    redrawn : (KnowsPeer w.remote.view.phase → ⊥) → StreamInvariant w.local w.remote o i.outgoing
    redrawn unknown = record {
      sound = i.outgoing_holds.sound;
      fits = i.outgoing_holds.fits;
      accepted = i.outgoing_holds.accepted;
      closed = i.outgoing_holds.closed;
      released = i.outgoing_holds.released;
      sending = λ d. absurd (no_iss_not_iss w.local.view.phase u d);
      receiving = λ m. absurd (unknown m);
      delivered = i.outgoing_holds.delivered;
      nothing_yet = i.outgoing_holds.nothing_yet;
      finished = i.outgoing_holds.finished;
      taken = i.outgoing_holds.taken;
      unsent = i.outgoing_holds.unsent;
    }

-- where the local side knows its peer's number, the peer has one
pub remote_has_iss : (w : Network) (i : IsInvariant w) → KnowsPeer w.local.view.phase → HasNoIss w.remote.view.phase → ⊥
remote_has_iss w i m u = ⊎_elim (λ a. a.unknown m) (λ d. subst KnowsPeer d m) (i.remote_unspoken u)

-- a segment that comes to a living side is true
pub comes_here : (w : Network) (i : IsInvariant w) (g : StreamSegment) → Contains w.remote_segments g → (w.local.view.phase ≡ Dead → ⊥) → IsTrueSegment w.remote w.local g i.remote_origin i.local_acked_origin i.incoming i.outgoing
comes_here w i g m lives = ⊎_elim (λ d. absurd (lives d)) (λ t. t) (i.remote_true g m)

-- a true segment may go out, if it speaks of no initial number that is not chosen
pub emit_keep : (w : Network) (i : IsInvariant w) (g : StreamSegment) → (w.remote.view.phase ≡ Dead) ⊎ IsTrueSegment w.local w.remote g i.local_origin i.remote_acked_origin i.outgoing i.incoming → (HasNoIss w.local.view.phase → g.rst ≡ true) → (g.rst ≡ false → (a : ℕ) → g.ack ≡ Some a → KnowsPeer w.local.view.phase) → IsInvariant (emitted w g)
emit_keep w i g t chosen knows = record {
  local_origin = i.local_origin;
  remote_origin = i.remote_origin;
  local_acked_origin = i.local_acked_origin;
  remote_acked_origin = i.remote_acked_origin;
  outgoing = i.outgoing;
  incoming = i.incoming;
  outgoing_holds = i.outgoing_holds;
  incoming_holds = i.incoming_holds;
  local_true = λ k m. ⊎_elim (λ old. i.local_true k old) (λ new. subst (λ (z : StreamSegment). (w.remote.view.phase ≡ Dead) ⊎ IsTrueSegment w.local w.remote z i.local_origin i.remote_acked_origin i.outgoing i.incoming) new t) (Contains-push_cases w.local_segments g k m);
  remote_true = i.remote_true;
  local_numbers = i.local_numbers;
  remote_numbers = i.remote_numbers;
  local_connects = i.local_connects;
  remote_connects = i.remote_connects;
  limited = i.limited;
  local_within = i.local_within;
  remote_within = i.remote_within;
  local_unspoken = λ u. ⊎_elim
      (λ n. inl (record {
        none = λ k m e. ⊎_elim
            (λ old. n.none k old e)
            (λ new. let c : true ≡ false = sym (chosen u) ∙ (ap (λ (z : StreamSegment). z.rst) new ∙ e) in cc)
            (Contains-push_cases w.local_segments g k m);
        unknown = n.unknown;
        unacked = n.unacked;
      }))
      (λ d. inr d)
      (i.local_unspoken u);
  remote_unspoken = λ u. ⊎_elim
      (λ n. inl (record {
        none = n.none;
        unknown = n.unknown;
        unacked = λ k m e a is. ⊎_elim
            (λ old. n.unacked k old e a is)
            (λ new. n.unknown (knows (ap (λ (z : StreamSegment). z.rst) new ∙ e) a (ap (λ (z : StreamSegment). z.ack) new ∙ is)))
            (Contains-push_cases w.local_segments g k m);
      }))
      (λ d. inr d)
      (i.remote_unspoken u);
}

-- acknowledgements released only what was taken, and only what was accepted was taken
pub counts_ordered : (x y : Endpoint) (o : ℕ) (f : Stream) → StreamInvariant x y o f → (x.released ≤ y.taken) × (y.taken ≤ length x.accepted)
counts_ordered x y o f l = (omega (arith, l.released, l.taken, l.sound.released), omega (arith, l.taken, le_from_at f.joined f.accepted l.sound.joined, ap length l.accepted))

-- a segment that may arrive is young: with a limit on the streams each is
pub is_young : (w : Network) (i : IsInvariant w) (g : StreamSegment) → MayArrive w.limit g w.remote → IsYoung g w.remote.released w.remote.taken
is_young w i g may = go w.limit i.limited i.local_within i.remote_within may
  where
    go : (l : Option ℕ) → IsLimit l → IsWithin l w.local.accepted → IsWithin l w.remote.accepted → MayArrive l g w.remote → IsYoung g w.remote.released w.remote.taken
    go None limited here there may = may
    go (Some n) limited here there may =
        let p = counts_ordered w.local w.remote i.local_origin i.outgoing i.outgoing_holds in
        let q = counts_ordered w.remote w.local i.remote_origin i.incoming i.incoming_holds in
        record { released = omega (arith, q.0, q.1, there, limited); taken = omega (arith, p.1, here, limited) }
