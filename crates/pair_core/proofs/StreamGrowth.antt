-- A stream that grows stays sound, and what is true of it stays true.
use Rattle.std.proofs.Common.{◌≡◌, ℕ, ◌+◌, ◌≤◌, ◌⊎◌, Bool, true, false, refl, sym, ap, ◌∙◌, arith, List, length, inl, inr, ⊎_elim}
use Rattle.std.proofs.lemmas.Bool.{cases_lt}
use Rattle.sock_core.specs.Streams.{ByteAt, IsPrefix, fin_length}
use Rattle.sock_core.proofs.Streams.{byte_within, le_from_at, prefix_at, prefix_back, prefix_from_at, prefix_le, prefix_self}
use Rattle.pair_core.specs.StreamModel.{Carries, Grows, IsSound, IsTrueAck, IsTruePayload, MayCome, PlacedPayload, Stream, counted}

-- a FIN takes at most one number
pub fin_length_le : (b : Bool) → fin_length b ≤ 1
fin_length_le true = omega arith
fin_length_le false = omega arith

-- a byte of a true payload that the receiver has not counted is the stream's
pub true_byte : (f : Stream) (p : PlacedPayload) (j b : ℕ) → IsTruePayload f p → counted f ≤ j → Carries p j b → ByteAt f.accepted j b
true_byte f p j b t past c = ⊎_elim (λ own. own j b c) (λ before. absurd (omega (arith, before j b c))) t.bytes

-- what comes is the stream's
pub comes_true : (f : Stream) (j b : ℕ) → IsSound f → length f.joined ≤ j → MayCome f j b → ByteAt f.accepted j b
comes_true f j b s l c = ⊎_elim (λ h. s.held j b l h) (λ h. true_byte f h.0 j b h.1 h.2 h.3) c

-- the receiver never counts less
pub counted_le : (f g : Stream) → Grows f g → counted f ≤ counted g
counted_le f g m = go f.fin_counted refl
  where
    longer : length f.joined ≤ length g.joined
    longer = prefix_le f.joined g.joined m.joined

    go : (b : Bool) → f.fin_counted ≡ b → counted f ≤ counted g
    go true e = omega (arith, longer, ap fin_length (e ∙ sym (m.finished e).0), ap length (m.finished e).1)
    go false e = omega (arith, longer, ap fin_length e)

-- what joined stays the stream's
joined_kept : (f g : Stream) → IsSound f → Grows f g → (j b : ℕ) → ByteAt g.joined j b → ByteAt g.accepted j b
joined_kept f g s m j b h = prefix_at f.accepted g.accepted j b m.accepted (⊎_elim
    (λ inside. s.joined j b (prefix_back f.joined g.joined j b m.joined inside h))
    (λ past. comes_true f j b s past (m.taken j b past h))
    (cases_lt j (length f.joined)))

-- no more is released than joined
released_kept : (f g : Stream) → IsSound f → Grows f g → g.released ≤ length g.joined
released_kept f g s m = ⊎_elim
    (λ same. omega (arith, longer, s.released))
    (λ by. go by f.fin_counted refl)
    m.released
  where
    longer : length f.joined ≤ length g.joined
    longer = prefix_le f.joined g.joined m.joined

    go : ((a : ℕ) × IsTrueAck f a × (g.released ≤ a) × (g.released ≤ length f.accepted)) → (b : Bool) → f.fin_counted ≡ b → g.released ≤ length g.joined
    go by true e = omega (arith, longer, (s.fin e).1)
    go by false e = omega (arith, longer, by.1.taken, ap fin_length e)

-- a counted FIN means a closed stream, taken to its end
fin_kept : (f g : Stream) → IsSound f → Grows f g → g.fin_counted ≡ true → (g.closed ≡ true) × (length g.joined ≡ length g.accepted)
fin_kept f g s m e = ⊎_elim
    (λ was. let o = m.closed (s.fin was).0 in (o.0, ap length (m.finished was).1 ∙ (s.fin was).1 ∙ ap length (sym o.1)))
    (λ by. ⊎_elim
    (λ low. absurd (omega (arith, by.3)))
    (λ h. let o = m.closed h.0 in let n : length f.accepted ≡ length g.accepted = ap length (sym o.1) in (o.0, omega (arith, h.1, by.4, le_from_at g.joined g.accepted (joined_kept f g s m))))
    (by.1.fin by.2))
    (m.fin e)

-- so a sound stream stays sound
pub sound_kept : (f g : Stream) → IsSound f → Grows f g → IsSound g
sound_kept f g s m = record {
  joined = joined_kept f g s m;
  held = λ j b l h. prefix_at f.accepted g.accepted j b m.accepted (comes_true f j b s (omega (arith, prefix_le f.joined g.joined m.joined)) (m.held j b l h));
  released = released_kept f g s m;
  fin = fin_kept f g s m;
}

-- a true acknowledgement stays true
pub ack_kept : (f g : Stream) (a : ℕ) → Grows f g → IsTrueAck f a → IsTrueAck g a
ack_kept f g a m t = record { taken = omega (arith, counted_le f g m, t.taken) }

-- a true payload stays true
pub payload_kept : (f g : Stream) (p : PlacedPayload) → Grows f g → IsTruePayload f p → IsTruePayload g p
payload_kept f g p m t = record {
  bytes = ⊎_elim (λ own. inl (λ j b c. prefix_at f.accepted g.accepted j b m.accepted (own j b c))) (λ before. inr (λ j b c. omega (arith, before j b c, counted_le f g m))) t.bytes;
  fin = λ e. ⊎_elim (λ low. inl low) (λ h. inr ((m.closed h.0).0, h.1 ∙ ap (λ xs. length xs + 2) (sym (m.closed h.0).1))) (t.fin e);
  within = omega (arith, t.within, prefix_le f.accepted g.accepted m.accepted);
}

-- what joined the receiver's queue is a prefix of what was accepted
pub sound_front : (f : Stream) → IsSound f → IsPrefix f.joined f.accepted
sound_front f s = prefix_from_at f.joined f.accepted s.joined

-- a stream grows where its sender accepts more, is closed, or releases what a true acknowledgement lets it
pub sender_grows : (f : Stream) (accepted : List ℕ) (closed : Bool) (released : ℕ) → IsPrefix f.accepted accepted → (f.closed ≡ true → (closed ≡ true) × (accepted ≡ f.accepted)) → (released ≡ f.released) ⊎ ((a : ℕ) × IsTrueAck f a × (released ≤ a) × (released ≤ length f.accepted)) → Grows f (record f { accepted = accepted; closed = closed; released = released })
sender_grows f accepted closed released longer ends frees = record {
  accepted = longer;
  closed = ends;
  released = frees;
  joined = prefix_self f.joined;
  taken = λ j b past h. absurd (omega (arith, byte_within f.joined j b h));
  held = λ j b past h. inl h;
  fin = λ e. inl e;
  finished = λ e. (e, refl);
}

-- a stream that nothing happens to
pub stays : (f : Stream) → Grows f f
stays f = sender_grows f f.accepted f.closed f.released (prefix_self f.accepted) (λ e. (e, refl)) (inl refl)
