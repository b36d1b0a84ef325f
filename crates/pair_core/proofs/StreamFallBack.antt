-- After a fall-back to LISTEN an acknowledgement speaks of an earlier initial number, and releases nothing.
use Rattle.std.proofs.Common.{◌≡◌, ℕ, ◌+◌, ◌%◌, ◌^◌, ◌<◌, ◌≤◌, ◌⊎◌, Bool, true, false, refl, sym, ap, subst, ◌∙◌, arith, [], length, drop, Some, inl, inr, ⊎_elim, add-zero}
use Rattle.std.proofs.lemmas.List.{drop_all}
use Rattle.sock_core.specs.Places.{number_at}
use Rattle.sock_core.specs.Streams.{fin_length}
use Rattle.sock_core.proofs.Numbers.{number_add, same_origin}
use Rattle.sock_core.proofs.Streams.{le_from_at}
use Rattle.pair_core.specs.Network.{Endpoint}
use Rattle.pair_core.specs.NetworkInvariant.{HasFallenBack, HasTrueAck, PhaseAllows, QueueFits, SameNumbers, SendingMatches}
use Rattle.pair_core.specs.StreamEffects.{AcksBytes, AcksFin, AcksSyn, HearsAck, SndNxtWithin}
use Rattle.pair_core.specs.StreamModel.{Grows, IsSound, Stream, counted}
use Rattle.pair_core.specs.StreamViews.{FinQueued, Open, Silent, SocketView, StreamSegment}
use Rattle.pair_core.proofs.StreamAcking.{ack_grows, released_grows, released_more}
use Rattle.pair_core.proofs.StreamMatches.{SameSent, sending_same, syn_unacked}
use Rattle.pair_core.proofs.StreamSending.{queue_length}

-- acknowledgements by an origin that is as good
pub ack_by_same_numbers : (g : StreamSegment) (a o : ℕ) (f : Stream) → SameNumbers a o → HasTrueAck g a f → HasTrueAck g o f
ack_by_same_numbers g a o f al is = record { says = λ n e. let k = is.says n e in (k.0, k.1 ∙ al (k.0 + 2), k.2, k.3) }

module _ (o ax : ℕ) (f : Stream) (x w : SocketView) (g : StreamSegment) (s : IsSound f) (t : SendingMatches x o f) (is : HasTrueAck g ax f) (empty : f.accepted ≡ []) (open_yet : f.closed ≡ false) where
  -- nothing of the stream is counted, released or queued
  pub nothing_yet : (counted f ≡ 0) × (f.released ≡ 0) × (length x.transmit_queue ≡ 0)
  nothing_yet =
      let n : length f.accepted ≡ 0 = ap length empty in
      let joined = le_from_at f.joined f.accepted s.joined in
      let fin : f.fin_counted ≡ false = go f.fin_counted refl in
      (omega (arith, n, joined, ap fin_length fin), omega (arith, n, joined, s.released), omega (arith, n, queue_length o f x s t))
    where
      go : (b : Bool) → f.fin_counted ≡ b → f.fin_counted ≡ false
      go true e = let no : true ≡ false = sym (s.fin e).0 ∙ open_yet in cc
      go false e = e

  -- releasing nothing changes nothing
  pub zero_sent : SameSent f (released_more f 0)
  zero_sent = record { accepted = refl; closed = refl; released = add-zero f.released }

  -- so a sender that matches still does
  released_zero : SendingMatches w o f → SendingMatches w o (released_more f 0)
  released_zero t' = sending_same w o f (released_more f 0) zero_sent (omega arith) t'

  -- an acknowledgement of bytes is of none
  acks : (a n : ℕ) → n ≤ length x.transmit_queue → a ≡ (x.snd_una + n) % 2 ^ 32 → w.phase ≡ x.phase → w.snd_una ≡ a → w.transmit_queue ≡ drop n x.transmit_queue → SndNxtWithin w → SendingMatches w o f
  acks a n le rel ph b q nf =
      let none : n ≡ 0 = omega (arith, le, nothing_yet.2) in
      let snd_una : w.snd_una ≡ number_at o t.place = b ∙ rel ∙ ap (λ m. (m + n) % 2 ^ 32) t.snd_una ∙ number_add o t.place n ∙ ap (number_at o) (omega (arith, none)) in
      record {
        place = t.place;
        snd_una = snd_una;
        acked = t.acked;
        flight = nf.flight;
        snd_nxt = nf.is ∙ ap (λ m. (m + nf.flight) % 2 ^ 32) snd_una ∙ number_add o t.place nf.flight;
        flight_le = nf.le;
        queue = q ∙ ap (λ m. drop m x.transmit_queue) none ∙ t.queue;
        at = ⊎_elim (λ c. inl c) (λ r. ⊎_elim (λ c. inr (inl c)) (λ c. inr (inr (c.0, c.1, ph ∙ c.2))) r) t.at;
        phase = subst (λ p. PhaseAllows p f t.place) (sym ph) t.phase;
      }

  -- an acknowledgement of the SYN is the number of the first byte
  second : (a : ℕ) → t.place ≡ 1 → a ≡ (x.snd_una + 1) % 2 ^ 32 → a ≡ number_at o 2
  second a e rel = rel ∙ ap (λ m. (m + 1) % 2 ^ 32) (t.snd_una ∙ ap (number_at o) e) ∙ number_add o 1 1

  -- there SND.UNA comes to stand
  to_two : (a : ℕ) → a ≡ number_at o 2 → w.snd_una ≡ a → w.transmit_queue ≡ drop f.released f.accepted → SndNxtWithin w → PhaseAllows w.phase f 2 → SendingMatches w o f
  to_two a e b q nf says = record {
    place = 2;
    snd_una = b ∙ e;
    acked = omega arith;
    flight = nf.flight;
    snd_nxt = nf.is ∙ ap (λ m. (m + nf.flight) % 2 ^ 32) (b ∙ e) ∙ number_add o 2 nf.flight;
    flight_le = nf.le;
    queue = q;
    at = inr (inl (omega (arith, nothing_yet.1)));
    phase = says;
  }

  -- then the earlier initial number has the same numbers
  numbers_agree : (a : ℕ) → g.ack ≡ Some a → a ≡ number_at o 2 → SameNumbers ax o
  numbers_agree a e is_two =
      let k = is.says a e in
      let none : k.0 ≡ 0 = omega (arith, k.2.taken, nothing_yet.0) in
      same_origin ax o 2 (sym (k.1 ∙ ap (λ m. number_at ax (m + 2)) none) ∙ is_two)

  -- each acknowledgement leaves a sender that matches, and sends only where the numbers agree
  pub fallen_back_ack : HearsAck x w g → SendingMatches w o (released_more f 0) × (SameNumbers ax o ⊎ ((x.phase ≡ Open → ⊥) → w.phase ≡ Open → ⊥))
  fallen_back_ack (AcksBytes a n e le rel ph b q nf) = (released_zero (acks a n le rel ph b q nf), inr (λ no c. no (sym ph ∙ c)))
  fallen_back_ack (AcksSyn a e rel ph to b q nf) =
      let two = second a (syn_unacked x.phase f t.place ph t.phase).0 rel in
      (released_zero (to_two a two b (q ∙ t.queue) nf (subst (λ p. PhaseAllows p f 2) (sym to) (omega (arith, nothing_yet.1), open_yet))), inl (numbers_agree a e two))
  fallen_back_ack (AcksFin a e rel ph to b q nf) =
      let says : PhaseAllows FinQueued f t.place = subst (λ p. PhaseAllows p f t.place) ph t.phase in
      let rel' : a ≡ (x.snd_una + 1) % 2 ^ 32 = rel ∙ ap (λ m. m % 2 ^ 32) (omega (arith, nothing_yet.2)) in
      let one_code : t.place ≡ 1 = ⊎_elim (λ c. c.0) (λ c. let no : true ≡ false = sym c.1 ∙ open_yet in cc) says in
      (released_zero (to_two a (second a one_code rel') b (q ∙ sym (drop_all f.released f.accepted (omega (arith, ap length empty)))) nf (subst (λ p. PhaseAllows p f 2) (sym to) (inl (omega (arith, nothing_yet.1), open_yet)))), inr (λ no c. let bad : Silent ≡ Open = sym to ∙ c in cc))

-- an acknowledgement that comes, whatever number it speaks of
pub any_ack : (o ax : ℕ) (f : Stream) (x y z : Endpoint) (g : StreamSegment) → IsSound f → QueueFits f → SendingMatches x.view o f → HasTrueAck g ax f → (young : length f.joined < g.taken_at + 2 ^ 29) → SameNumbers ax o ⊎ HasFallenBack x y f → HearsAck x.view z.view g
    → (n : ℕ) × Grows f (released_more f n) × SendingMatches z.view o (released_more f n) × (SameNumbers ax o ⊎ HasFallenBack z y (released_more f n))
any_ack o ax f x y z g s fits t is young numbers d = ⊎_elim {C = (n : ℕ) × Grows f (released_more f n) × SendingMatches z.view o (released_more f n) × (SameNumbers ax o ⊎ HasFallenBack z y (released_more f n))}
    (λ al. let r = ack_grows o f x.view z.view g s fits t (ack_by_same_numbers g ax o f al is) young d in (r.0, r.1, r.2, inl al))
    (λ back.
    let r = fallen_back_ack o ax f x.view z.view g s t is back.accepted back.closed d in
    let n = nothing_yet o ax f x.view z.view g s t is back.accepted back.closed in (
      0,
      released_grows f 0 0 (record { taken = omega arith }) (omega (arith, n.1)) (omega (arith, n.1)),
      r.0,
      ⊎_elim (λ al. inl al) (λ q. inr (record { dead = back.dead; accepted = back.accepted; closed = back.closed; not_sending = q back.not_sending })) r.1,
    ))
    numbers

-- before anything was sent, each acknowledgement is of the SYN
pub first_ack : (o : ℕ) (f : Stream) (x : SocketView) (g : StreamSegment) (a : ℕ) → IsSound f → (t : SendingMatches x o f) → HasTrueAck g o f → f.accepted ≡ [] → f.closed ≡ false → t.place ≡ 1 → g.ack ≡ Some a → a ≡ (x.snd_una + 1) % 2 ^ 32
first_ack o f x g a s t is empty open_yet place e =
    let n = nothing_yet o o f x x g s t is empty open_yet in
    let k = is.says a e in
    let none : k.0 ≡ 0 = omega (arith, k.2.taken, n.0) in
    k.1 ∙ ap (λ m. number_at o (m + 2)) none ∙ sym (number_add o 1 1) ∙ ap (λ m. (m + 1) % 2 ^ 32) (sym (t.snd_una ∙ ap (number_at o) place))
