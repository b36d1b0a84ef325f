-- A stream's halves against a view of either side.
use Rattle.std.proofs.Common.{◌≡◌, ℕ, ◌+◌, ◌%◌, ◌^◌, ◌≤◌, ◌⊎◌, false, refl, sym, ap, subst, ◌∙◌, arith, List, [], ◌++◌, length, drop, inl, inr, ⊎_elim}
use Rattle.std.proofs.lemmas.List.{drop_all}
use Rattle.sock_core.specs.Places.{number_at}
use Rattle.sock_core.specs.Streams.{fin_length}
use Rattle.sock_core.proofs.Numbers.{number_add}
use Rattle.pair_core.specs.Network.{Endpoint}
use Rattle.pair_core.specs.NetworkInvariant.{HasReceivedNothing, HasSentNothing, PhaseAllows, ReceivingMatches, SendingMatches, SndUnaAt}
use Rattle.pair_core.specs.StreamEffects.{SameReceiving, SameSending}
use Rattle.pair_core.specs.StreamModel.{Stream, counted}
use Rattle.pair_core.specs.StreamViews.{FinQueued, Dead, Listening, Phase, Open, Silent, SocketView, StreamSegment, SynReceived, SynSent, Unopened}

-- the receiving half of the stream stays
pub record SameReceived (f g : Stream) : Type 0 where
  pub joined : g.joined ≡ f.joined
  pub held : g.held ≡ f.held
  pub fin : g.fin_counted ≡ f.fin_counted

-- the sending half of the stream stays
pub record SameSent (f g : Stream) : Type 0 where
  pub accepted : g.accepted ≡ f.accepted
  pub closed : g.closed ≡ f.closed
  pub released : g.released ≡ f.released

-- a stream's receiving half is the same as itself
pub received_self : (f : Stream) → SameReceived f f
received_self f = record { joined = refl; held = refl; fin = refl }

-- and so is its sending half
pub sent_self : (f : Stream) → SameSent f f
sent_self f = record { accepted = refl; closed = refl; released = refl }

-- a receiver that matched still does
pub receiving_same : (v : SocketView) (hs : List ℕ) (o : ℕ) (f g : Stream) → SameReceived f g → ReceivingMatches v hs o f → ReceivingMatches v hs o g
receiving_same v hs o f g e r = record {
  rcv_nxt = r.rcv_nxt ∙ ap (λ n. number_at o (n + 2)) ((λ i. length (sym e.joined i) + fin_length (sym e.fin i)));
  fin = r.fin ∙ sym e.fin;
  held = λ k b h. (λ i. e.held i (length (e.joined i) + k)) ∙ r.held k b h;
  queue = r.queue ∙ sym e.joined;
}

-- a receiver that had nothing still has nothing
pub received_nothing_same : (y : Endpoint) (f g : Stream) → SameReceived f g → HasReceivedNothing y f → HasReceivedNothing y g
received_nothing_same y f g e r = record { joined = e.joined ∙ r.joined; stream_fin = e.fin ∙ r.stream_fin; receive_queue = r.receive_queue; handed_out = r.handed_out; fin = r.fin; held = r.held }

-- a sender that sent nothing still has not
pub sent_nothing_same : (x : Endpoint) (f g : Stream) → SameSent f g → HasSentNothing x f → HasSentNothing x g
sent_nothing_same x f g e r = record { accepted = e.accepted ∙ r.accepted; closed = e.closed ∙ r.closed; released = e.released ∙ r.released; transmit_queue = r.transmit_queue }

-- the phase allows the same places
phase_same : (p : Phase) (f g : Stream) (place : ℕ) → SameSent f g → PhaseAllows p f place → PhaseAllows p g place
phase_same Unopened f g place e h = h
phase_same Listening f g place e h = h
phase_same SynSent f g place e h = (h.0, e.closed ∙ h.1)
phase_same SynReceived f g place e h = (h.0, e.closed ∙ h.1)
phase_same Open f g place e h = (omega (arith, h.0, e.released), e.closed ∙ h.1)
phase_same FinQueued f g place e h = ⊎_elim (λ a. inl (a.0, e.closed ∙ a.1)) (λ a. inr (omega (arith, a.0, e.released), e.closed ∙ a.1)) h
phase_same Silent f g place e h = ⊎_elim
    (λ a. inl (omega (arith, a.0, e.released), e.closed ∙ a.1))
    (λ a. inr (omega (arith, a.0, e.released), e.released ∙ a.1 ∙ ap length (sym e.accepted), e.closed ∙ a.2))
    h
phase_same Dead f g place e h = h

-- a sender that matched still does, also where the receiver counted more
pub sending_same : (v : SocketView) (o : ℕ) (f g : Stream) → SameSent f g → counted f ≤ counted g → SendingMatches v o f → SendingMatches v o g
sending_same v o f g e le t = record {
  place = t.place;
  snd_una = t.snd_una;
  acked = omega (arith, t.acked);
  flight = t.flight;
  snd_nxt = t.snd_nxt;
  flight_le = t.flight_le;
  queue = t.queue ∙ (λ i. drop (sym e.released i) (sym e.accepted i));
  at = ⊎_elim
      (λ a. inl (a.0, e.accepted ∙ a.1))
      (λ r. ⊎_elim (λ a. inr (inl (omega (arith, a, e.released)))) (λ a. inr (inr (omega (arith, a.0, e.released), e.released ∙ a.1 ∙ ap length (sym e.accepted), a.2))) r)
      t.at;
  phase = phase_same v.phase f g t.place e t.phase;
}

-- a view with the same sending half matches too
pub sending_view : (v u : SocketView) (o : ℕ) (f : Stream) → SameSending v u → SendingMatches v o f → SendingMatches u o f
sending_view v u o f e t = record {
  place = t.place;
  snd_una = e.snd_una ∙ t.snd_una;
  acked = t.acked;
  flight = t.flight;
  snd_nxt = e.snd_nxt ∙ t.snd_nxt;
  flight_le = omega (arith, t.flight_le, ap length e.transmit_queue);
  queue = e.transmit_queue ∙ t.queue;
  at = ⊎_elim (λ a. inl a) (λ r. ⊎_elim (λ a. inr (inl a)) (λ a. inr (inr (a.0, a.1, e.phase ∙ a.2))) r) t.at;
  phase = subst (λ p. PhaseAllows p f t.place) (sym e.phase) t.phase;
}

-- a view with the same receiving half matches too
pub receiving_view : (v u : SocketView) (hs : List ℕ) (o : ℕ) (f : Stream) → SameReceiving v u → ReceivingMatches v hs o f → ReceivingMatches u hs o f
receiving_view v u hs o f e r = record {
  rcv_nxt = e.rcv_nxt ∙ r.rcv_nxt;
  fin = e.fin ∙ r.fin;
  held = λ k b h. r.held k b ((λ i. sym e.held i k) ∙ h);
  queue = ap (λ xs. hs ++ xs) e.receive_queue ∙ r.queue;
}

-- a side with the receiving half of one that had nothing has nothing
pub received_nothing_as : (x z : Endpoint) (f : Stream) → SameReceiving x.view z.view → z.handed_out ≡ x.handed_out → HasReceivedNothing x f → HasReceivedNothing z f
received_nothing_as x z f e h r = record {
  joined = r.joined;
  stream_fin = r.stream_fin;
  receive_queue = e.receive_queue ∙ r.receive_queue;
  handed_out = h ∙ r.handed_out;
  fin = e.fin ∙ r.fin;
  held = λ k b is. r.held k b ((λ i. sym e.held i k) ∙ is);
}

-- a SYN makes the peer's numbers known
pub syn_receiving : (x : Endpoint) (u : SocketView) (o : ℕ) (h : Stream) (g : StreamSegment) → HasReceivedNothing x h → g.seq ≡ number_at o 1 → u.rcv_nxt ≡ (g.seq + 1) % 2 ^ 32 → u.receive_queue ≡ x.view.receive_queue → u.held ≡ x.view.held → u.fin_counted ≡ x.view.fin_counted → ReceivingMatches u x.handed_out o h
syn_receiving x u o h g fresh seq l r e fin = record {
  rcv_nxt = l ∙ ap (λ n. (n + 1) % 2 ^ 32) seq ∙ number_add o 1 1 ∙ ap (number_at o) (omega (arith, ap length fresh.joined, ap fin_length fresh.stream_fin));
  fin = fin ∙ fresh.fin ∙ sym fresh.stream_fin;
  held = λ k b is. absurd (fresh.held k b ((λ i. sym e i k) ∙ is));
  queue = (λ i. fresh.handed_out i ++ (r ∙ fresh.receive_queue) i) ∙ sym fresh.joined;
}

-- before the own SYN is acknowledged, SND.UNA stands on it and nothing is closed
pub syn_unacked : (p : Phase) (f : Stream) (place : ℕ) → (p ≡ SynSent) ⊎ (p ≡ SynReceived) → PhaseAllows p f place → (place ≡ 1) × (f.closed ≡ false)
syn_unacked p f place h says = ⊎_elim (λ e. subst (λ q. PhaseAllows q f place) e says) (λ e. subst (λ q. PhaseAllows q f place) e says) h

-- and where SND.UNA stands on the SYN, nothing was accepted
pub syn_empty : (v : SocketView) (f : Stream) (place : ℕ) → place ≡ 1 → SndUnaAt v f place → f.accepted ≡ []
syn_empty v f place e = ⊎_elim (λ a. a.1) (λ r. absurd (⊎_elim (λ a. omega (arith, a, e)) (λ a. omega (arith, a.0, e)) r))

-- the queue of a side that sent nothing is what is left of its stream
pub unsent_queue : (x : Endpoint) (f : Stream) → HasSentNothing x f → x.view.transmit_queue ≡ drop f.released f.accepted
unsent_queue x f r = r.transmit_queue ∙ sym (drop_all f.released f.accepted (omega (arith, ap length r.accepted)))

-- with an initial sequence number just chosen, SND.UNA and SND.NXT stand on the SYN
pub iss_sending : (x : Endpoint) (v : SocketView) (o iss : ℕ) (f : Stream) → HasSentNothing x f → iss ≡ number_at o 1 → v.snd_una ≡ iss → v.snd_nxt ≡ iss → v.transmit_queue ≡ x.view.transmit_queue → (v.phase ≡ SynSent) ⊎ (v.phase ≡ SynReceived) → SendingMatches v o f
iss_sending x v o iss f unsent is una nxt queue ph = record {
  place = 1;
  snd_una = una ∙ is;
  acked = omega arith;
  flight = 0;
  snd_nxt = nxt ∙ is;
  flight_le = omega arith;
  queue = queue ∙ unsent_queue x f unsent;
  at = inl (refl, unsent.accepted);
  phase = ⊎_elim (λ e. subst (λ p. PhaseAllows p f 1) (sym e) (refl, unsent.closed)) (λ e. subst (λ p. PhaseAllows p f 1) (sym e) (refl, unsent.closed)) ph;
}
