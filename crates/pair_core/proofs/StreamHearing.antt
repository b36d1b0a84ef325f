-- A true segment that comes makes the stream grow.
use Rattle.std.proofs.Common.{◌≡◌, ℕ, ◌+◌, ◌-◌, ◌%◌, ◌^◌, ◌<◌, ◌≤◌, ◌⊎◌, Bool, true, false, refl, sym, ap, subst, ◌∙◌, arith, List, [], ◌++◌, length, Some, inl, inr, ⊎_elim, length-append, append_assoc}
use Rattle.std.proofs.lemmas.List.{append-nil}
use Rattle.sock_core.specs.Places.{number_at}
use Rattle.sock_core.specs.Streams.{ByteAt, fin_length}
use Rattle.sock_core.proofs.Numbers.{number_add, same_place}
use Rattle.sock_core.proofs.Streams.{byte_right, byte_within, le_from_at, no_bytes, prefix_self}
use Rattle.pair_core.specs.NetworkInvariant.{HasTruePayload, QueueFits, ReceivingMatches}
use Rattle.pair_core.specs.StreamEffects.{Brings, HearsData}
use Rattle.pair_core.specs.StreamModel.{Grows, IsSound, IsTruePayload, MayCome, PlacedPayload, Stream, counted}
use Rattle.pair_core.specs.StreamViews.{SocketView, StreamSegment}
use Rattle.pair_core.proofs.StreamGrowth.{comes_true, fin_length_le, true_byte}

-- the stream once the segment was heard
abbrev pub heard : Stream → SocketView → List ℕ → Stream
heard f w more = record {
  accepted = f.accepted;
  closed = f.closed;
  released = f.released;
  joined = f.joined ++ more;
  held = λ j. w.held (j - length (f.joined ++ more));
  fin_counted = w.fin_counted;
}

module _ (o : ℕ) (f : Stream) (v w : SocketView) (g : StreamSegment) (hs : List ℕ) (s : IsSound f) (fits : QueueFits f) (r : ReceivingMatches v hs o f) (is : HasTruePayload g o f) (young : f.released < g.released_at + 2 ^ 29) where
  -- the at of a byte that the segment has
  place_of : (i k : ℕ) → k < 2 ^ 31 → (g.seq + i) % 2 ^ 32 ≡ (v.rcv_nxt + k) % 2 ^ 32 → i ≤ length is.placed.bytes → is.placed.start + i ≡ counted f + 2 + k
  place_of i k small e l =
      let a : (number_at o is.placed.start + i) % 2 ^ 32 ≡ (number_at o (counted f + 2) + k) % 2 ^ 32 = ap (λ n. (n + i) % 2 ^ 32) (sym is.seq) ∙ e ∙ ap (λ n. (n + k) % 2 ^ 32) r.rcv_nxt in
      let c : number_at o (is.placed.start + i) ≡ number_at o (counted f + 2 + k) = sym (number_add o is.placed.start i) ∙ a ∙ number_add o (counted f + 2) k in
      same_place o (is.placed.start + i) (counted f + 2 + k) (omega (arith, is.holds.within, fits.room, s.released)) (omega (arith, fits.room, young, is.since, le_from_at f.joined f.accepted s.joined, fin_length_le f.fin_counted)) c

  -- what is new stands at its at. Past a counted FIN nothing is new
  new_comes : (i k b : ℕ) → ByteAt is.placed.bytes i b → is.placed.start + i ≡ counted f + 2 + k → (c : Bool) → f.fin_counted ≡ c → MayCome f (length f.joined + k) b
  new_comes i k b byte at true e =
      let j : ℕ = length f.joined + 1 + k in
      let at_end : ByteAt f.accepted j b = true_byte f is.placed j b is.holds (omega (arith, ap fin_length e)) (record { index = i; here = omega (arith, at, ap fin_length e); byte = byte }) in
      absurd (omega (arith, byte_within f.accepted j b at_end, (s.fin e).1))
  new_comes i k b byte at false e = inr (is.placed, is.holds, omega (arith, ap fin_length e), record { index = i; here = omega (arith, at, ap fin_length e); byte = byte })

  -- each byte that the segment brings may come
  brings_comes : (k b : ℕ) → Brings v g k b → MayCome f (length f.joined + k) b
  brings_comes k b h = ⊎_elim
      (λ held. inl (r.held k b held))
      (λ new.
      let byte : ByteAt is.placed.bytes new.0 b = subst (λ xs. ByteAt xs new.0 b) is.bytes new.3 in
      new_comes new.0 k b byte (place_of new.0 k new.1 new.2 (omega (arith, byte_within is.placed.bytes new.0 b byte))) f.fin_counted refl)
      h

  module _ (d : HearsData v w g) where
    -- nothing joins the queue past a counted FIN
    none_more : f.fin_counted ≡ true → d.more ≡ []
    none_more e = no_bytes d.more (λ k b h.
        let here = comes_true f (length f.joined + k) b s (omega arith) (brings_comes k b (d.joined k b h)) in
        omega (arith, byte_within f.accepted (length f.joined + k) b here, (s.fin e).1))

    -- a FIN that is counted came of a true payload
    fin_comes : ((x : ℕ) × (g.fin ≡ true) × (x ≤ length d.more) × (x < 2 ^ 31) × ((g.seq + length g.payload) % 2 ^ 32 ≡ (v.rcv_nxt + x) % 2 ^ 32)) → (c : Bool) → f.fin_counted ≡ c
        → (f.fin_counted ≡ true) ⊎ ((p : PlacedPayload) × IsTruePayload f p × (p.fin ≡ true) × (2 ≤ p.start + length p.bytes) × (p.start + length p.bytes ≤ length (f.joined ++ d.more) + 2))
    fin_comes new true e = inl e
    fin_comes new false e =
        let at = place_of (length g.payload) new.0 new.3 new.4 (omega (arith, ap length is.bytes)) in
        let n : length g.payload ≡ length is.placed.bytes = ap length is.bytes in
        inr (is.placed, is.holds, sym is.fin ∙ new.1, omega (arith, at, n), omega (arith, at, n, new.2, ap fin_length e, length-append f.joined d.more))

    -- RCV.NXT stands past what was counted
    rcv_nxt_is : w.rcv_nxt ≡ number_at o (counted (heard f w d.more) + 2)
    rcv_nxt_is =
        let e : w.rcv_nxt ≡ (number_at o (counted f + 2) + (length d.more + d.fins)) % 2 ^ 32 = d.rcv_nxt ∙ ap (λ n. (n + length d.more + d.fins) % 2 ^ 32) r.rcv_nxt ∙ ap (λ n. n % 2 ^ 32) (omega arith) in
        let n : counted f + 2 + (length d.more + d.fins) ≡ counted (heard f w d.more) + 2 = omega (arith, length-append f.joined d.more, d.fin_counts, ap fin_length r.fin) in
        e ∙ number_add o (counted f + 2) (length d.more + d.fins) ∙ ap (number_at o) n

    -- so the stream grows
    pub heard_grows : Grows f (heard f w d.more)
    heard_grows = record {
      accepted = prefix_self f.accepted;
      closed = λ e. (e, refl);
      released = inl refl;
      joined = (d.more, refl);
      taken = λ j b past h.
          let k : ℕ = j - length f.joined in
          let here : length f.joined + k ≡ j = omega arith in
          subst (λ n. MayCome f n b) here (brings_comes k b (d.joined k b (byte_right f.joined d.more j b past h)));
      held = λ j b past h.
          let k : ℕ = j - length (f.joined ++ d.more) in
          let here : length f.joined + (length d.more + k) ≡ j = omega (arith, length-append f.joined d.more) in
          subst (λ n. MayCome f n b) here (brings_comes (length d.more + k) b (d.held k b h));
      fin = λ e. ⊎_elim
          (λ was. inl (sym r.fin ∙ was))
          (λ new. fin_comes new f.fin_counted refl)
          (d.fin e);
      finished = λ e. (d.kept (r.fin ∙ e), ap (λ xs. f.joined ++ xs) (none_more e) ∙ append-nil f.joined);
    }

    -- and the receiving half matches it
    pub heard_receiving : ReceivingMatches w hs o (heard f w d.more)
    heard_receiving = record {
      rcv_nxt = rcv_nxt_is;
      fin = refl;
      held = λ k b h. subst (λ n. w.held n ≡ Some b) (omega arith) h;
      queue = ap (λ xs. hs ++ xs) d.receive_queue ∙ sym (append_assoc hs v.receive_queue d.more) ∙ ap (λ xs. xs ++ d.more) r.queue;
    }
