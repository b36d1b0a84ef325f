-- What hearing a segment leaves of an endpoint, and which segments are young.
use Rattle.std.proofs.Common.{◌≡◌, ℕ, ◌+◌, ◌%◌, ◌^◌, ◌⊎◌, true, false, Some, None, sym, subst, ◌∙◌, inl, inr}
use Rattle.std.specs.List.{Contains}
use Rattle.pair_core.specs.Network.{Endpoint, IsOfAnyAge, MayArrive, Network, with_view}
use Rattle.pair_core.specs.StreamEffects.{AcksBytes, AcksFin, AcksSyn, HearsAck}
use Rattle.pair_core.specs.StreamViews.{IsSynchronized, KnowsPeer, Listening, SocketView, StreamSegment, SynReceived, SynSent}

abbrev pub with_snd_nxt : Endpoint → ℕ → Endpoint
with_snd_nxt e n = with_view e (record e.view { snd_nxt = n })

abbrev pub fallen_back : Endpoint → Endpoint
fallen_back e = with_view e (record e.view { phase = Listening })

-- a SYN came in LISTEN, and iss was chosen
abbrev pub synchronizing : Endpoint → StreamSegment → ℕ → Endpoint
synchronizing e g iss = with_view e (record e.view { phase = SynReceived; snd_una = iss; snd_nxt = iss; rcv_nxt = (g.seq + 1) % 2 ^ 32 })

-- a SYN without an acknowledgement came in SYN-SENT
abbrev pub crossed : Endpoint → StreamSegment → ℕ → Endpoint
crossed e g n = with_view e (record e.view { phase = SynReceived; snd_nxt = n; rcv_nxt = (g.seq + 1) % 2 ^ 32 })

-- a segment that is no RST arrives at the local side, and is young where that matters
pub record ArrivesYoung (w : Network) (g : StreamSegment) : Type 0 where
  pub sent : Contains w.remote_segments g
  pub plain : g.rst ≡ false
  pub may : MayArrive w.limit g w.remote

-- ---- which segments are young

module _ (v : SocketView) (g : StreamSegment) (Young : Type 0) where
  young : (v.phase ≡ Listening → ⊥) → (v.phase ≡ SynSent → g.ack ≡ None → ⊥) → g.rst ≡ false → IsOfAnyAge v g ⊎ Young → Young
  young l s plain (inr y) = y
  young l s plain (inl (inl reset)) = let no : true ≡ false = sym reset ∙ plain in cc
  young l s plain (inl (inr (inl listens))) = absurd (l listens)
  young l s plain (inl (inr (inr sent))) = absurd (s sent.0 sent.1)

  pub synchronized_young : IsSynchronized v.phase → g.rst ≡ false → IsOfAnyAge v g ⊎ Young → Young
  synchronized_young live = young (λ e. subst IsSynchronized e live) (λ e n. subst IsSynchronized e live)

  pub known_young : KnowsPeer v.phase → g.rst ≡ false → IsOfAnyAge v g ⊎ Young → Young
  known_young knows = young (λ e. subst KnowsPeer e knows) (λ e n. subst KnowsPeer e knows)

  pub acked_young : (w : SocketView) → v.phase ≡ SynSent → HearsAck v w g → g.rst ≡ false → IsOfAnyAge v g ⊎ Young → Young
  acked_young w sent ack = young (λ e. let no : SynSent ≡ Listening = sym sent ∙ e in cc) (λ e n. acks_some ack n)
    where
      acks_some : HearsAck v w g → g.ack ≡ None → ⊥
      acks_some (AcksBytes a n is le at ph una queue within) none = let no : Some a ≡ None = sym is ∙ none in cc
      acks_some (AcksSyn a is at ph to una queue within) none = let no : Some a ≡ None = sym is ∙ none in cc
      acks_some (AcksFin a is at ph to una queue within) none = let no : Some a ≡ None = sym is ∙ none in cc
