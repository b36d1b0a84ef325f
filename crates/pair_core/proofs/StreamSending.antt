-- What a side sends is true of its stream.
use Rattle.std.proofs.Common.{◌≡◌, ℕ, ◌+◌, ◌-◌, ◌%◌, ◌^◌, ◌≤◌, ◌⊎◌, true, false, refl, sym, ap, subst, ◌∙◌, arith, length, inl, inr, ⊎_elim, length-drop}
use Rattle.sock_core.specs.Streams.{ByteAt}
use Rattle.sock_core.proofs.Numbers.{number_add, number_back}
use Rattle.sock_core.proofs.Streams.{byte_drop, byte_within, le_from_at}
use Rattle.pair_core.specs.NetworkInvariant.{HasTruePayload, PhaseAllows, SendingMatches}
use Rattle.pair_core.specs.StreamEffects.{SendsKeepAlive, SendsPayload}
use Rattle.pair_core.specs.StreamModel.{IsSound, Stream}
use Rattle.pair_core.specs.StreamViews.{FinQueued, SocketView, StreamSegment}

module _ (o : ℕ) (f : Stream) (x : SocketView) (s : IsSound f) (t : SendingMatches x o f) where
  -- what is released was accepted
  pub released_le : f.released ≤ length f.accepted
  released_le = omega (arith, s.released, le_from_at f.joined f.accepted s.joined)

  -- the queue is what is left of the stream
  pub queue_length : length x.transmit_queue + f.released ≡ length f.accepted
  queue_length = omega (arith, ap length t.queue, length-drop f.released f.accepted, released_le)

  -- SND.UNA stands at the SYN or past it
  pub place_pos : 1 ≤ t.place
  place_pos = ⊎_elim (λ a. omega (arith, a.0)) (λ h. ⊎_elim (λ a. omega (arith, a)) (λ a. omega (arith, a.0)) h) t.at

  -- and past all that is released
  pub place_ge : f.released + 1 ≤ t.place
  place_ge = ⊎_elim (λ a. omega (arith, a.0, queue_length, ap length a.1)) (λ h. ⊎_elim (λ a. omega (arith, a)) (λ a. omega (arith, a.0)) h) t.at

  -- the queue's end is the stream's, or a FIN and one more
  pub place_le : t.place + length x.transmit_queue ≤ length f.accepted + 3
  place_le = ⊎_elim (λ a. omega (arith, a.0, queue_length)) (λ h. ⊎_elim (λ a. omega (arith, a, queue_length)) (λ a. omega (arith, a.0, a.1, queue_length)) h) t.at

  module _ (g : StreamSegment) (d : SendsPayload x g) (now : g.released_at ≤ f.released) where
    -- the bytes are the stream's at their places
    bytes_true : (j b : ℕ) (i : ℕ) → t.place + d.skip + i ≡ j + 2 → ByteAt g.payload i b → ByteAt f.accepted j b
    bytes_true j b i here h =
        let inside : ByteAt x.transmit_queue (d.skip + i) b = d.bytes i b h in
        let stream : ByteAt f.accepted (f.released + (d.skip + i)) b = byte_drop f.accepted f.released (d.skip + i) b (subst (λ xs. ByteAt xs (d.skip + i) b) t.queue inside) in
        let under = byte_within f.accepted (f.released + (d.skip + i)) b stream in
        ⊎_elim
        (λ a. absurd (omega (arith, under, ap length a.1)))
        (λ r. ⊎_elim
        (λ a. subst (λ n. ByteAt f.accepted n b) (omega (arith, a, here)) stream)
        (λ a. absurd (omega (arith, under, a.1)))
        r)
        t.at

    -- a FIN stands at a closed stream's end, or where the SYN does
    fin_true : g.fin ≡ true → (t.place + d.skip + length g.payload ≤ 1) ⊎ ((f.closed ≡ true) × (t.place + d.skip + length g.payload ≡ length f.accepted + 2))
    fin_true e =
        let at_end : d.skip + length g.payload ≡ length x.transmit_queue = (d.fin e).1 in
        let says : PhaseAllows FinQueued f t.place = subst (λ p. PhaseAllows p f t.place) (d.fin e).0 t.phase in
        ⊎_elim
        (λ a. ⊎_elim
        (λ b. inl (omega (arith, at_end, a.0, ap length b.1, queue_length)))
        (λ r. absurd (⊎_elim (λ c. omega (arith, a.0, c)) (λ c. omega (arith, a.0, c.0)) r))
        t.at)
        (λ a. inr (a.1, omega (arith, at_end, a.0, queue_length)))
        says

    -- so a segment with a part of the queue is true
    pub sent_payload_true : HasTruePayload g o f
    sent_payload_true = record {
      placed = record { start = t.place + d.skip; bytes = g.payload; fin = g.fin };
      seq = d.seq ∙ ap (λ n. (n + d.skip) % 2 ^ 32) t.snd_una ∙ number_add o t.place d.skip;
      bytes = refl;
      fin = refl;
      holds = record {
        bytes = inl (λ j b c. bytes_true j b c.index c.here c.byte);
        fin = fin_true;
        within = omega (arith, d.within, place_le);
      };
      since = omega (arith, now, place_ge);
    }

  module _ (g : StreamSegment) (d : SendsKeepAlive x g) (now : g.released_at ≤ f.released) where
    -- a keep-alive lies below all that the receiver has not counted
    pub keep_alive_true : HasTruePayload g o f
    keep_alive_true = record {
      placed = record { start = t.place - 1; bytes = g.payload; fin = g.fin };
      seq = d.seq ∙ ap (λ n. (n + (2 ^ 32 - 1)) % 2 ^ 32) t.snd_una ∙ number_back o t.place place_pos;
      bytes = refl;
      fin = refl;
      holds = record {
        bytes = inr (λ j b c. omega (arith, c.here, byte_within g.payload c.index b c.byte, d.bytes, t.acked, place_pos));
        fin = λ e. let no : true ≡ false = sym e ∙ d.fin in cc;
        within = omega (arith, d.bytes, place_le, place_pos);
      };
      since = omega (arith, now, place_ge);
    }
