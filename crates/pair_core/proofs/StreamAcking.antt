-- A true acknowledgement that comes releases only bytes that the receiver took.
use Rattle.std.proofs.Common.{◌≡◌, ℕ, ◌+◌, ◌%◌, ◌^◌, ◌<◌, ◌≤◌, ◌⊎◌, refl, sym, ap, subst, ◌∙◌, arith, [], length, drop, Some, inl, inr, ⊎_elim}
use Rattle.std.proofs.lemmas.List.{drop-drop, drop_all}
use Rattle.sock_core.specs.Places.{number_at}
use Rattle.sock_core.proofs.Numbers.{number_add, same_place}
use Rattle.sock_core.proofs.Streams.{le_from_at, prefix_self}
use Rattle.pair_core.specs.NetworkInvariant.{HasTrueAck, PhaseAllows, QueueFits, SendingMatches, SndUnaAt}
use Rattle.pair_core.specs.StreamEffects.{AcksBytes, AcksFin, AcksSyn, HearsAck, SndNxtWithin}
use Rattle.pair_core.specs.StreamModel.{Grows, IsSound, IsTrueAck, Stream}
use Rattle.pair_core.specs.StreamViews.{FinQueued, Dead, Listening, Phase, Open, Silent, SocketView, StreamSegment, SynReceived, SynSent, Unopened}
use Rattle.pair_core.proofs.StreamGrowth.{fin_length_le, sender_grows}
use Rattle.pair_core.proofs.StreamMatches.{syn_empty, syn_unacked}
use Rattle.pair_core.proofs.StreamSending.{place_ge, place_le, queue_length}

-- the stream once n more bytes were released
abbrev pub released_more : Stream → ℕ → Stream
released_more f n = record { accepted = f.accepted; closed = f.closed; released = f.released + n; joined = f.joined; held = f.held; fin_counted = f.fin_counted }

-- more may be released up to a true acknowledgement
pub released_grows : (f : Stream) (n k : ℕ) → IsTrueAck f k → f.released + n ≤ k → f.released + n ≤ length f.accepted → Grows f (released_more f n)
released_grows f n k t below within = sender_grows f f.accepted f.closed (f.released + n) (prefix_self f.accepted) (λ e. (e, refl)) (inr (k, t, below, within))

-- what the phase allows, where SND.UNA moved along the stream
phase_released : (p : Phase) (f : Stream) (place n : ℕ) → place ≡ f.released + 2 → PhaseAllows p f place → PhaseAllows p (released_more f n) (f.released + n + 2)
phase_released Unopened f place n e h = h
phase_released Listening f place n e h = h
phase_released SynSent f place n e h = absurd (omega (arith, h.0))
phase_released SynReceived f place n e h = absurd (omega (arith, h.0))
phase_released Open f place n e h = (refl, h.1)
phase_released FinQueued f place n e h = ⊎_elim (λ a. absurd (omega (arith, a.0))) (λ a. inr (refl, a.1)) h
phase_released Silent f place n e h = ⊎_elim (λ a. inl (refl, a.1)) (λ a. absurd (omega (arith, e, a.0))) h
phase_released Dead f place n e h = h

module _ (o : ℕ) (f : Stream) (x w : SocketView) (g : StreamSegment) (s : IsSound f) (fits : QueueFits f) (t : SendingMatches x o f) (is : HasTrueAck g o f) (young : length f.joined < g.taken_at + 2 ^ 29) where
  -- the acknowledgement's at
  ack_place : (a m : ℕ) → g.ack ≡ Some a → a ≡ (x.snd_una + m) % 2 ^ 32 → m ≤ length x.transmit_queue + 1 → (k : ℕ) × (k + 2 ≡ t.place + m) × IsTrueAck f k × (a ≡ number_at o (k + 2))
  ack_place a m e rel le =
      let h = is.says a e in
      let c : number_at o (h.0 + 2) ≡ number_at o (t.place + m) = sym h.1 ∙ rel ∙ ap (λ n. (n + m) % 2 ^ 32) t.snd_una ∙ number_add o t.place m in
      (h.0, same_place o (h.0 + 2) (t.place + m) (omega (arith, h.2.taken, fits.room, le_from_at f.joined f.accepted s.joined, fin_length_le f.fin_counted, place_ge o f x s t)) (omega (arith, le, fits.room, young, h.3, s.released, queue_length o f x s t, place_le o f x s t)) c, h.2, h.1)

  -- the sending half after the acknowledgement of at k, with n bytes released_more
  sending_after : (a k n : ℕ) → w.snd_una ≡ a → a ≡ number_at o (k + 2) → IsTrueAck f k → w.transmit_queue ≡ drop (f.released + n) f.accepted → SndNxtWithin w → SndUnaAt w (released_more f n) (k + 2) → PhaseAllows w.phase (released_more f n) (k + 2) → SendingMatches w o (released_more f n)
  sending_after a k n eb ea true_ack q nf at says = record {
    place = k + 2;
    snd_una = eb ∙ ea;
    acked = omega (arith, true_ack.taken);
    flight = nf.flight;
    snd_nxt = nf.is ∙ ap (λ m. (m + nf.flight) % 2 ^ 32) (eb ∙ ea) ∙ number_add o (k + 2) nf.flight;
    flight_le = nf.le;
    queue = q;
    at = at;
    phase = says;
  }

  -- what is left of the queue is what is left of the stream
  queue_after : (n : ℕ) → w.transmit_queue ≡ drop n x.transmit_queue → w.transmit_queue ≡ drop (f.released + n) f.accepted
  queue_after n q = q ∙ ap (drop n) t.queue ∙ drop-drop n f.released f.accepted

  -- an acknowledgement of n bytes
  acks : (a n : ℕ) → g.ack ≡ Some a → n ≤ length x.transmit_queue → a ≡ (x.snd_una + n) % 2 ^ 32 → w.phase ≡ x.phase → w.snd_una ≡ a → w.transmit_queue ≡ drop n x.transmit_queue → SndNxtWithin w → (n : ℕ) × Grows f (released_more f n) × SendingMatches w o (released_more f n)
  acks a n e le rel ph b q nf =
      let k = ack_place a n e rel (omega arith) in
      let len = queue_length o f x s t in
      ⊎_elim
      (λ p. absurd (omega (arith, k.1, p.0, len, ap length p.1, le)))
      (λ r. ⊎_elim
      (λ p.
      let here : k.0 + 2 ≡ f.released + n + 2 = omega (arith, k.1, p) in (
        n,
        released_grows f n k.0 k.2 (omega arith) (omega arith),
        sending_after a k.0 n b k.3 k.2 (queue_after n q) nf (inr (inl here)) (subst (λ c. PhaseAllows w.phase (released_more f n) c) (sym here) (subst (λ ph. PhaseAllows ph (released_more f n) (f.released + n + 2)) (sym ph) (phase_released x.phase f t.place n p t.phase))),
      ))
      (λ p.
      let none : n ≡ 0 = omega (arith, p.1, len, le) in
      let silent : w.phase ≡ Silent = ph ∙ p.2 in
      let says : PhaseAllows Silent (released_more f n) (k.0 + 2) = ⊎_elim (λ c. absurd (omega (arith, p.0, c.0))) (λ c. inr (omega (arith, k.1, p.0), omega (arith, p.1), c.2)) (subst (λ ph. PhaseAllows ph f t.place) p.2 t.phase) in (
        n,
        released_grows f n k.0 k.2 (omega (arith, k.1, p.0)) (omega (arith, p.1)),
        sending_after a k.0 n b k.3 k.2 (queue_after n q) nf (inr (inr (omega (arith, k.1, p.0), omega (arith, p.1), silent))) (subst (λ ph. PhaseAllows ph (released_more f n) (k.0 + 2)) (sym silent) says),
      ))
      r)
      t.at

  -- an unacknowledged SYN has an empty stream behind it
  on_syn : t.place ≡ 1 → (f.released ≡ 0) × (length x.transmit_queue ≡ 0) × (length f.accepted ≡ 0)
  on_syn e =
      let none : length f.accepted ≡ 0 = ap length (syn_empty x f t.place e t.at) in
      let len = queue_length o f x s t in
      (omega (arith, len, none), omega (arith, len, none), none)

  -- of the SYN
  opens : (a : ℕ) → g.ack ≡ Some a → a ≡ (x.snd_una + 1) % 2 ^ 32 → (x.phase ≡ SynSent) ⊎ (x.phase ≡ SynReceived) → w.phase ≡ Open → w.snd_una ≡ a → w.transmit_queue ≡ x.transmit_queue → SndNxtWithin w → (n : ℕ) × Grows f (released_more f n) × SendingMatches w o (released_more f n)
  opens a e rel ph to b q nf =
      let k = ack_place a 1 e rel (omega arith) in
      let says = syn_unacked x.phase f t.place ph t.phase in
      let none = on_syn says.0 in
      let here : k.0 + 2 ≡ f.released + 0 + 2 = omega (arith, k.1, says.0, none.0) in (
        0,
        released_grows f 0 k.0 k.2 (omega arith) (omega (arith, none.0)),
        sending_after a k.0 0 b k.3 k.2 (queue_after 0 q) nf (inr (inl here)) (subst (λ c. PhaseAllows w.phase (released_more f 0) c) (sym here) (subst (λ ph. PhaseAllows ph (released_more f 0) (f.released + 0 + 2)) (sym to) (refl, says.1))),
      )

  -- of the FIN
  ends : (a : ℕ) → g.ack ≡ Some a → a ≡ (x.snd_una + length x.transmit_queue + 1) % 2 ^ 32 → x.phase ≡ FinQueued → w.phase ≡ Silent → w.snd_una ≡ a → w.transmit_queue ≡ [] → SndNxtWithin w → (n : ℕ) × Grows f (released_more f n) × SendingMatches w o (released_more f n)
  ends a e rel ph to b q nf =
      let n : ℕ = length x.transmit_queue in
      let rel' : a ≡ (x.snd_una + (length x.transmit_queue + 1)) % 2 ^ 32 = rel ∙ ap (λ m. m % 2 ^ 32) (omega arith) in
      let k = ack_place a (n + 1) e rel' (omega arith) in
      let len = queue_length o f x s t in
      let gone : w.transmit_queue ≡ drop (f.released + n) f.accepted = q ∙ sym (drop_all (f.released + n) f.accepted (omega (arith, len))) in
      let silent = subst (λ ph. PhaseAllows ph (released_more f n) (k.0 + 2)) (sym to) in
      ⊎_elim
      (λ c.
      let none = on_syn c.0 in (
        n,
        released_grows f n k.0 k.2 (omega (arith, k.1, none.0, none.1)) (omega (arith, len)),
        sending_after a k.0 n b k.3 k.2 gone nf (inr (inl (omega (arith, k.1, c.0, none.0, none.1)))) (silent (inl (omega (arith, k.1, c.0, none.0, none.1), c.1))),
      ))
      (λ c. (
        n,
        released_grows f n k.0 k.2 (omega (arith, k.1, c.0)) (omega (arith, len)),
        sending_after a k.0 n b k.3 k.2 gone nf (inr (inr (omega (arith, k.1, c.0), omega (arith, len), to))) (silent (inr (omega (arith, k.1, c.0), omega (arith, len), c.1))),
      ))
      (subst (λ p. PhaseAllows p f t.place) ph t.phase)

  -- of any of the three
  pub ack_grows : HearsAck x w g → (n : ℕ) × Grows f (released_more f n) × SendingMatches w o (released_more f n)
  ack_grows (AcksBytes a n e le rel ph b q nf) = acks a n e le rel ph b q nf
  ack_grows (AcksSyn a e rel ph to b q nf) = opens a e rel ph to b q nf
  ack_grows (AcksFin a e rel ph to b q nf) = ends a e rel ph to b q nf
