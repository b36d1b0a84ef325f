-- Acknowledgements that pass, and contents that are sent, come to what the effects allow.
use Rattle.std.proofs.Common.{◌≡◌, ℕ, ◌+◌, ◌-◌, ◌%◌, ◌^◌, ◌<◌, ◌≤◌, ◌⊎◌, Bool, true, false, refl, sym, ap, subst, ◌∙◌, arith, length, drop, Some, None, inl, inr, ⊎_elim, length-drop}
use Rattle.sock_core.specs.Places.{later_number, number_distance, number_is_before}
use Rattle.sock_core.specs.Streams.{ByteAt}
use Rattle.sock_core.proofs.Numbers.{distance_back, not_before}
use Rattle.sock_core.proofs.Streams.{byte_drop, prefix_at, prefix_le}
use Rattle.pair_core.specs.StreamEffects.{AcksBytes, AcksFin, AcksSyn, HearsAck, SendsKeepAlive, SendsPayload, SndNxtWithin}
use Rattle.pair_core.specs.StreamTables.{AckPasses, Bytes, Content, HasSendingBounds, KeepAlive, OfBytes, OfFin, OfSyn, Syn}
use Rattle.pair_core.specs.StreamViews.{SocketView, StreamSegment}

-- an acknowledgement between SND.UNA and the end of what can have been sent lies that far past SND.UNA
pub ack_distance : (a una len extra : ℕ) → a < 2 ^ 32 → una < 2 ^ 32 → len ≤ 2 ^ 30 → extra ≤ 1 → number_is_before a una ≡ false → number_is_before ((una + len + extra) % 2 ^ 32) a ≡ false → number_distance a una ≤ len + extra
unfolding number_distance
ack_distance a una len extra sa su sl se below above = omega (arith, not_before _ _ below, not_before _ _ above)

-- a number is 0 past itself
number_self : (n : ℕ) → n < 2 ^ 32 → n ≡ (n + 0) % 2 ^ 32
number_self n l = omega arith

-- SND.NXT is at most as far past the new SND.UNA as before, less what was acknowledged
pub later_snd_nxt : (snd_una fl d len : ℕ) → snd_una < 2 ^ 32 → fl ≤ len + 1 → d ≤ len + 1 → len ≤ 2 ^ 30 → (m : ℕ) × (m ≤ len + 1 - d) × (later_number ((snd_una + fl) % 2 ^ 32) ((snd_una + d) % 2 ^ 32) ≡ ((snd_una + d) % 2 ^ 32 + m) % 2 ^ 32)
unfolding number_is_before number_distance
later_snd_nxt snd_una fl d len sb a b c = go (number_is_before ((snd_una + fl) % 2 ^ 32) ((snd_una + d) % 2 ^ 32)) refl
  where
    go : (t : Bool) → number_is_before ((snd_una + fl) % 2 ^ 32) ((snd_una + d) % 2 ^ 32) ≡ t → (m : ℕ) × (m ≤ len + 1 - d) × (later_number ((snd_una + fl) % 2 ^ 32) ((snd_una + d) % 2 ^ 32) ≡ ((snd_una + d) % 2 ^ 32 + m) % 2 ^ 32)
    go true e = (0, omega arith, rw e (omega arith))
    go false e =
        let ahead : ((snd_una + fl) % 2 ^ 32 + (2 ^ 32 - (snd_una + d) % 2 ^ 32)) % 2 ^ 32 < 2 ^ 31 = not_before _ _ e in
        (fl - d, omega arith, rw e (omega arith))

-- after an emit SND.NXT is the later of the old one and of what follows the segment
pub snd_nxt_after : (snd_una fl m len : ℕ) → snd_una < 2 ^ 32 → fl ≤ len + 1 → m ≤ len + 1 → len ≤ 2 ^ 30 → (k : ℕ) × (k ≤ len + 1) × (later_number ((snd_una + fl) % 2 ^ 32) ((snd_una + m) % 2 ^ 32) ≡ (snd_una + k) % 2 ^ 32)
snd_nxt_after snd_una fl m len sb a b c = go (number_is_before ((snd_una + fl) % 2 ^ 32) ((snd_una + m) % 2 ^ 32)) refl
  where
    go : (t : Bool) → number_is_before ((snd_una + fl) % 2 ^ 32) ((snd_una + m) % 2 ^ 32) ≡ t → (k : ℕ) × (k ≤ len + 1) × (later_number ((snd_una + fl) % 2 ^ 32) ((snd_una + m) % 2 ^ 32) ≡ (snd_una + k) % 2 ^ 32)
    go true e = (m, b, rw e refl)
    go false e = (fl, a, rw e refl)

-- so it moves as SND.NXT may
pub emit_moves : (v : SocketView) (m : ℕ) → HasSendingBounds v → m ≤ length v.transmit_queue + 1 → SndNxtWithin (record v { snd_nxt = later_number v.snd_nxt ((v.snd_una + m) % 2 ^ 32) })
emit_moves v m b le =
    let r = snd_nxt_after v.snd_una b.flight m (length v.transmit_queue) b.snd_una b.flight_le le b.room in
    record { flight = r.0; is = ap (λ n. later_number n ((v.snd_una + m) % 2 ^ 32)) b.snd_nxt ∙ r.2; le = r.1 }

module _ (v w : SocketView) (g : StreamSegment) (b : HasSendingBounds v) where
  -- where SND.NXT comes to stand
  snd_nxt_within : (a d : ℕ) → a ≡ (v.snd_una + d) % 2 ^ 32 → d ≤ length v.transmit_queue + 1 → w.snd_una ≡ a → w.snd_nxt ≡ later_number v.snd_nxt a → length v.transmit_queue + 1 - d ≤ length w.transmit_queue + 1 → SndNxtWithin w
  snd_nxt_within a d e le una nxt room =
      let r = later_snd_nxt v.snd_una b.flight d (length v.transmit_queue) b.snd_una b.flight_le le b.room in
      record {
        flight = r.0;
        is = nxt ∙ (λ i. later_number (b.snd_nxt i) (e i)) ∙ r.2 ∙ ap (λ n. (n + r.0) % 2 ^ 32) (sym (una ∙ e));
        le = omega (arith, r.1);
      }

  -- an acknowledgement that passes is heard
  pub passes_heard : AckPasses v w g → HearsAck v w g
  passes_heard (OfBytes a ack small le ph una queue nxt) =
      let is : a ≡ (v.snd_una + number_distance a v.snd_una) % 2 ^ 32 = distance_back a v.snd_una small b.snd_una in
      AcksBytes a (number_distance a v.snd_una) ack le is ph una queue (snd_nxt_within a (number_distance a v.snd_una) is (omega (arith, le)) una nxt (omega (arith, ap length queue, length-drop (number_distance a v.snd_una) v.transmit_queue)))
  passes_heard (OfSyn a ack is ph to una queue nxt) = AcksSyn a ack is ph to una queue (⊎_elim
      (λ later. snd_nxt_within a 1 is (omega arith) una later (omega (arith, ap length queue)))
      (λ same. record { flight = 0; is = same ∙ sym una ∙ number_self w.snd_una (omega (arith, una ∙ is)); le = omega arith })
      nxt)
  passes_heard (OfFin a ack small all ph to una queue nxt) =
      let is : a ≡ (v.snd_una + number_distance a v.snd_una) % 2 ^ 32 = distance_back a v.snd_una small b.snd_una in
      AcksFin a ack (is ∙ ap (λ n. n % 2 ^ 32) (omega (arith, all))) ph to una queue (snd_nxt_within a (number_distance a v.snd_una) is (omega (arith, all)) una nxt (omega (arith, all)))

-- what a dispatch sends may be sent
pub content_sent : (v : SocketView) (g : StreamSegment) → v.snd_una < 2 ^ 32 → Content v g → SendsPayload v g ⊎ SendsKeepAlive v g
content_sent v g small (Syn fin seq none) = inl (record {
  skip = 0;
  seq = seq ∙ number_self v.snd_una small;
  bytes = λ i b h. let e : None ≡ Some b = subst (λ xs. ByteAt xs i b) none h in cc;
  within = omega (arith, ap length none);
  fin = λ e. let no : true ≡ false = sym e ∙ fin in cc;
})
content_sent v g small (Bytes o seq le part fin) = inl (record {
  skip = o;
  seq = seq;
  bytes = λ i b h. byte_drop v.transmit_queue o i b (prefix_at g.payload (drop o v.transmit_queue) i b part h);
  within = omega (arith, prefix_le g.payload (drop o v.transmit_queue) part, length-drop o v.transmit_queue, le);
  fin = fin;
})
content_sent v g small (KeepAlive fin seq short) = inr (record { seq = seq; bytes = short; fin = fin })
