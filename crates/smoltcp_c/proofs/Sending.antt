-- From the one call of `emit` of a datagram socket to what a dispatch writes.
use Rattle.std.proofs.Common.{◌≡◌, ℕ, pos, ◌≤◌, List, length, min, Bool, true, false, Option, Some, None, refl, ◌∙◌, ap, subst, arith}
use Rattle.std.specs.Prelude.{Result, Ok, Err, is_ok, nat_le, ◌&&◌, cond, drop, if◌then◌else◌}
use Rattle.std.specs.Borrow.{MutBor}
use Rattle.sock_core.specs.Emission.{Emit, Emits, EmitsAt}
use Rattle.sock_dgram.specs.Addressed.{Dispatches, View, waiting}
use Rattle.smoltcp_c.specs.Answers.{error_room, sent_answer}
use Rattle.smoltcp_c.specs.Sends.{DispatchesInto, Puts, has_room, size_of, written_over}
use Rattle.smoltcp_c.specs.declared.wire.Full.{Full}
use Rattle.smoltcp_c.specs.declared.wire.Wire.{Wire}

module _ {O : Type 0} (len : O → ℕ) (packet : O → List ℕ) where
  -- what is known after the emit of what is due, where the buffer has room for it or not
  pub record Sent (room : Bool) (due : Option O) (c c' : Wire) (r : Result (Unit {0}) Full) : Type 0 where
    pub answer : sent_answer r c'.len ≡ (if room then pos (size_of len packet due) else error_room)
    pub written : c'.out.now ≡ (if room then written_over len packet due c.out.now else c.out.now)
    pub ok : is_ok r ≡ room
    pub same_buffer : c'.out.ghost_name ≡ c.out.ghost_name

  -- a packet that the buffer has room for was written
  pub written : (IsPacket : O → Type 0) (c c' : Wire) (o : O) (r : Result (Unit {0}) Full) → (len o ≤ 65535 → IsPacket o) → Puts (IsPacket o) (len o) (packet o) c r c' → Sent (has_room len packet (Some o) c.out.now) (Some o) c c' r
  written IsPacket c c' o r is p = go (nat_le (len o) 65535) refl (nat_le (len o) (length c.out.now)) refl r p
    where
      go : (a : Bool) → nat_le (len o) 65535 ≡ a → (b : Bool) → nat_le (len o) (length c.out.now) ≡ b → (x : Result (Unit {0}) Full) → Puts (IsPacket o) (len o) (packet o) c x c' → Sent (a && b) (Some o) c c' x
      go true p true q (Ok u) w = record { answer = ap pos (omega (arith, w.len, w.short)); written = w.bytes; ok = refl; same_buffer = w.same_buffer }
      go true p true q (Err d) w = absurd (w.0 (is (grind (arith, p))) (grind (arith, q)))
      go true p false q (Ok u) w = absurd (grind (arith, q, w.room))
      go true p false q (Err d) w = record { answer = refl; written = ap (λ (y : Wire). y.out.now) w.1; ok = refl; same_buffer = ap (λ (y : Wire). y.out.ghost_name) w.1 }
      go false p b q (Ok u) w = absurd (grind (arith, p, w.short))
      go false p b q (Err d) w = record { answer = refl; written = ap (λ (y : Wire). y.out.now) w.1; ok = refl; same_buffer = ap (λ (y : Wire). y.out.ghost_name) w.1 }

  pub quiet : (c c' : Wire) (r : Result (Unit {0}) Full) → c.len ≡ 0 → r ≡ Ok tt → c' ≡ c → Sent true None c c' r
  quiet c c' r zero a e =
      record {
        answer = ap (λ x. sent_answer x c'.len) a ∙ ap (λ (y : Wire). pos (min y.len 65535)) e ∙ ap (λ n. pos (min n 65535)) zero;
        written = ap (λ (y : Wire). y.out.now) e;
        ok = ap is_ok a;
        same_buffer = ap (λ (y : Wire). y.out.ghost_name) e;
      }

  -- a whole dispatch of a UDP or an ICMP socket, of which so much was written
  pub from_sent : {S F : Type 0} (of : S → O) (g : Emit F Wire S Full) (f : F) {E M : Type 0} (outgoing : View E M → Option O) (due : Option O) (c c' : Wire) (v w : View E M) (r : Result (Unit {0}) Full) → Sent (has_room len packet due c.out.now) due c c' r → Dispatches outgoing of g f v c r c' w → DispatchesInto len packet due v c.out.now (sent_answer r c'.len) w c'.out.now × (c'.out.ghost_name ≡ c.out.ghost_name)
  from_sent of g f outgoing due c c' v w r h d = (
    record {
      sends = record { answer = h.answer; written = h.written };
      queue = d.queue ∙ ap (λ b. cond b (drop 1 (waiting v)) (waiting v)) h.ok;
      sent = λ t. d.sent (h.ok ∙ t);
      failed = λ t. d.failed (h.ok ∙ t);
      same = d.same;
    },
    h.same_buffer,
  )

  module _ (IsPacket : O → Type 0) {S F : Type 0} (of : S → O) (g : Emit F Wire S Full) (f : F) (says : (shown left : MutBor Wire) (s : S) (r : Result (Unit {0}) Full) → g.post f (shown, (s, tt)) (r, (left, tt)) → Puts (IsPacket (of s)) (len (of s)) (packet (of s)) shown.now r left.now) where
    put : (c c' : Wire) (o : O) (r : Result (Unit {0}) Full) → EmitsAt g of f c o r c' → Puts (IsPacket o) (len o) (packet o) c r c'
    put c c' o r e =
        let a : Puts (IsPacket (of e.sent)) (len (of e.sent)) (packet (of e.sent)) e.shown.now r e.left.now = says e.shown e.left e.sent r e.met in
        let b : Puts (IsPacket o) (len o) (packet o) e.shown.now r e.left.now = subst (λ (p : O). Puts (IsPacket p) (len p) (packet p) e.shown.now r e.left.now) e.says a in
        subst (λ y. Puts (IsPacket o) (len o) (packet o) c r y) e.leaves (subst (λ y. Puts (IsPacket o) (len o) (packet o) y r e.left.now) e.shows b)

    pub sent : (due : Option O) (c c' : Wire) (r : Result (Unit {0}) Full) → c.len ≡ 0 → ((o : O) → due ≡ Some o → len o ≤ 65535 → IsPacket o) → Emits g of f due c r c' → Sent (has_room len packet due c.out.now) due c c' r
    sent None c c' r zero is e = quiet c c' r zero e.0 e.1
    sent (Some o) c c' r zero is e = written IsPacket c c' o r (is o refl) (put c c' o r e)

    -- the same of a whole dispatch of a UDP or an ICMP socket, whose emit is this one
    pub dispatched : {E M : Type 0} (outgoing : View E M → Option O) (c c' : Wire) (v w : View E M) (r : Result (Unit {0}) Full) → c.len ≡ 0 → ((o : O) → outgoing v ≡ Some o → len o ≤ 65535 → IsPacket o) → Dispatches outgoing of g f v c r c' w → DispatchesInto len packet (outgoing v) v c.out.now (sent_answer r c'.len) w c'.out.now × (c'.out.ghost_name ≡ c.out.ghost_name)
    dispatched outgoing c c' v w r zero is d =
        from_sent of g f outgoing (outgoing v) c c' v w r (sent (outgoing v) c c' r zero is d.emits) d
