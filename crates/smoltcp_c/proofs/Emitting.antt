-- From the one call of `emit` to what a dispatch writes.
use Rattle.std.proofs.Common.{◌≡◌, ℕ, pos, ◌≤◌, [], length, min, Bool, true, false, Option, Some, None, refl, sym, ◌∙◌, ap, subst, arith}
use Rattle.std.specs.Prelude.{Result, Ok, Err, is_ok, nat_le, if◌then◌else◌, option_map}
use Rattle.std.specs.Borrow.{MutBor}
use Rattle.std.specs.Fn.{Once}
use Rattle.ip_wire.specs.declared.repr.IpRepr.{IpRepr}
use Rattle.ip_wire.specs.declared.repr.IpRepr.TheVariants as header
use Rattle.control_wire.specs.Fits.{FitsPacket}
use Rattle.control_wire.specs.Segment.{Segment, segment_of}
use Rattle.control_wire.specs.declared.tcp.TcpRepr.{TcpRepr}
use Rattle.sock_core.specs.Emission.{Emits, EmitsAt}
use Rattle.sock_core.specs.Facts.{Facts}
use Rattle.sock_tcp.specs.Rfc.Numbers.{outgoing}
use Rattle.sock_tcp.specs.Begin.{before_emit, peer_of}
use Rattle.sock_tcp.specs.Content.{Sending, content}
use Rattle.sock_tcp.specs.Dispatch.{packet_in, IsStamp, EmitsDue, EmitsTo, Dispatches}
use Rattle.sock_tcp.specs.Outgoing.{packet_of}
use Rattle.sock_tcp.specs.Sent.{left_by}
use Rattle.sock_tcp.specs.View.{View, moment_of}
use Rattle.sock_tcp.specs.declared.tuple.Tuple.{Tuple}
use Rattle.smoltcp_c.specs.Answers.{error_room, sent_answer}
use Rattle.smoltcp_c.specs.Packets.{size_of, written_over, has_room, stamp_told, SendsInto, SendsIf}
use Rattle.smoltcp_c.specs.Wire.{IsCounted, Writes, packet_len}
use Rattle.smoltcp_c.specs.declared.clock.Clock.{Clock}
use Rattle.smoltcp_c.specs.declared.wire.Full.{Full}
use Rattle.smoltcp_c.specs.declared.wire.Wire.{Wire}

-- what a packet takes is counted
pub counted : (ip : IpRepr) (s : Segment) → FitsPacket ip s → IsCounted ip s
counted ip s fits = record { header = omega (arith, fits.header.options); octets = fits.octets; total = omega (arith, fits.total, fits.octets); protocol = fits.protocol }

-- a header has at most 40 octets, so a bare reply at most 100
pub bare_len : (ip : IpRepr) (s : Segment) → FitsPacket ip s → s.payload ≡ [] → packet_len ip ≤ 100
bare_len (header.Ipv4 h) s fits e = let n : length s.payload ≡ 0 = ap length e in omega (arith, fits.octets, fits.header.options)
bare_len (header.Ipv6 h) s fits e = let n : length s.payload ≡ 0 = ap length e in omega (arith, fits.octets, fits.header.options)

-- what is known after the emit of a packet, where the buffer has room for it or not
pub record Emitted (c c' : Wire) (p : Option (IpRepr × Segment)) (room : Bool) (r : Result (Unit {0}) Full) : Type 0 where
  pub answer : sent_answer r c'.len ≡ (if room then pos (size_of p) else error_room)
  pub written : c'.out.now ≡ (if room then written_over p c.out.now else c.out.now)
  pub ok : is_ok r ≡ room
  pub same_buffer : c'.out.ghost_name ≡ c.out.ghost_name

-- the clock's value
told : (clock : Option Clock) (stamp : Option ℕ) → IsStamp (λ (k : Clock) (t : ℕ). t ≡ k.tsval) clock stamp → stamp ≡ stamp_told clock
told None stamp h = h
told (Some k) (Some n) h = ap Some h
told (Some k) None h = absurd h

module _ {F : Type 0} (g : Once F (MutBor Wire × ((IpRepr × TcpRepr) × Unit {0})) (Result (Unit {0}) Full × (MutBor Wire × Unit {0}))) (f : F) (says : (shown left : MutBor Wire) (s : IpRepr × TcpRepr) (r : Result (Unit {0}) Full) → g.post f (shown, (s, tt)) (r, (left, tt)) → Writes s.0 (segment_of s.1) shown.now r left.now) where
  wrote : (c c' : Wire) (s : Sending) (r : Result (Unit {0}) Full) → EmitsAt g packet_of f c (packet_in s) r c' → Writes s.ip s.segment c r c'
  wrote c c' s r e =
      let a : Writes e.sent.0 (segment_of e.sent.1) e.shown.now r e.left.now = says e.shown e.left e.sent r e.met in
      let b : Writes s.ip s.segment e.shown.now r e.left.now = subst (λ (p : IpRepr × Segment). Writes p.0 p.1 e.shown.now r e.left.now) e.says a in
      subst (λ y. Writes s.ip s.segment c r y) e.leaves (subst (λ y. Writes s.ip s.segment y r e.left.now) e.shows b)

  emitted : (c c' : Wire) (s : Sending) (r : Result (Unit {0}) Full) → FitsPacket s.ip s.segment → EmitsAt g packet_of f c (packet_in s) r c' → Emitted c c' (Some (packet_in s)) (has_room (Some (packet_in s)) c.out.now) r
  emitted c c' s r fits e = go (nat_le (packet_len s.ip) (length c.out.now)) refl r (wrote c c' s r e)
    where
      go : (b : Bool) → nat_le (packet_len s.ip) (length c.out.now) ≡ b → (x : Result (Unit {0}) Full) → Writes s.ip s.segment c x c' → Emitted c c' (Some (packet_in s)) b x
      go true q (Ok u) w = record { answer = ap pos (omega (arith, w.len, w.counted.total, w.counted.octets)); written = w.bytes; ok = refl; same_buffer = w.same_buffer }
      go true q (Err d) w = absurd (w.0 (counted s.ip s.segment fits) (grind (arith, q)))
      go false q (Ok u) w = absurd (grind (arith, q, w.room))
      go false q (Err d) w = record { answer = refl; written = ap (λ (y : Wire). y.out.now) w.1; ok = refl; same_buffer = ap (λ (y : Wire). y.out.ghost_name) w.1 }

  quiet : (c c' : Wire) (r : Result (Unit {0}) Full) → c.len ≡ 0 → r ≡ Ok tt → c' ≡ c → Emitted c c' None true r
  quiet c c' r zero a e =
      record {
        answer = ap (λ x. sent_answer x c'.len) a ∙ ap (λ (y : Wire). pos (min y.len 65535)) e ∙ ap (λ n. pos (min n 65535)) zero;
        written = ap (λ (y : Wire). y.out.now) e;
        ok = ap is_ok a;
        same_buffer = ap (λ (y : Wire). y.out.ghost_name) e;
      }

  pub record Dispatched (cx : Facts) (clock : Option Clock) (c c' : Wire) (v new : View) (r : Result (Unit {0}) Full) : Type 0 where
    pub table : SendsIf (peer_of (before_emit v cx)) cx (stamp_told clock) (before_emit v cx).view c.out.now (sent_answer r c'.len) new c'.out.now
    pub same_buffer : c'.out.ghost_name ≡ c.out.ghost_name

  due : (facts : Facts) (t : Tuple) (stamp : Option ℕ) (c c' : Wire) (v new : View) (r : Result (Unit {0}) Full) → c.len ≡ 0 → EmitsDue g f facts t stamp v c r new c' → SendsInto facts stamp t v c.out.now (sent_answer r c'.len) new c'.out.now × (c'.out.ghost_name ≡ c.out.ghost_name)
  due facts t stamp c c' v new r zero d = go (content v t facts stamp d.bytes) refl d.emits d.view d.fits
    where
      go : (o : Option Sending) → content v t facts stamp d.bytes ≡ o → Emits g packet_of f (option_map packet_in (outgoing v o)) c r c' → new ≡ left_by o v (moment_of facts) (is_ok r) → ((s : Sending) → outgoing v o ≡ Some s → FitsPacket s.ip s.segment) → SendsInto facts stamp t v c.out.now (sent_answer r c'.len) new c'.out.now × (c'.out.ghost_name ≡ c.out.ghost_name)
      go o q e w fits = (into (all (outgoing v o) e fits), (all (outgoing v o) e fits).same_buffer)
        where
          all : (o : Option Sending) → Emits g packet_of f (option_map packet_in o) c r c' → ((s : Sending) → o ≡ Some s → FitsPacket s.ip s.segment) → Emitted c c' (option_map packet_in o) (has_room (option_map packet_in o) c.out.now) r
          all None e fits = quiet c c' r zero e.0 e.1
          all (Some s) e fits = emitted c c' s r (fits s refl) e

          into : Emitted c c' (option_map packet_in (outgoing v o)) (has_room (option_map packet_in (outgoing v o)) c.out.now) r → SendsInto facts stamp t v c.out.now (sent_answer r c'.len) new c'.out.now
          into h =
              let P : Option Sending → Type 0 = λ x. (sent_answer r c'.len ≡ (if has_room (option_map packet_in (outgoing v x)) c.out.now then pos (size_of (option_map packet_in (outgoing v x))) else error_room)) × (c'.out.now ≡ (if has_room (option_map packet_in (outgoing v x)) c.out.now then written_over (option_map packet_in (outgoing v x)) c.out.now else c.out.now)) × (new ≡ left_by x v (moment_of facts) (has_room (option_map packet_in (outgoing v x)) c.out.now)) in
              let k : P (content v t facts stamp d.bytes) = subst P (sym q) (h.answer, h.written, w ∙ ap (left_by o v (moment_of facts)) h.ok) in
              record { bytes = d.bytes; lent = d.lent; answer = k.0; written = k.1; view = k.2 }

  pub dispatched : (facts : Facts) (clock : Option Clock) (c c' : Wire) (v new : View) (r : Result (Unit {0}) Full) → c.len ≡ 0 → Dispatches g f facts (λ (k : Clock) (t : ℕ). t ≡ k.tsval) clock v c r new c' → Dispatched facts clock c c' v new r
  unfolding Dispatches
  dispatched facts clock c c' v new r zero h = to h
    where
      w : View
      w = (before_emit v facts).view

      both : (o : Option Tuple) → EmitsTo g f facts (λ (k : Clock) (t : ℕ). t ≡ k.tsval) clock o w c r new c' → SendsIf o facts (stamp_told clock) w c.out.now (sent_answer r c'.len) new c'.out.now × (c'.out.ghost_name ≡ c.out.ghost_name)
      both None x =
          let q = quiet c c' r zero x.answer x.context in
          ((q.answer, x.view, q.written), q.same_buffer)
      both (Some t) x =
          due facts t (stamp_told clock) c c' w new r zero (subst (λ y. EmitsDue g f facts t y w c r new c') (told clock x.stamp x.told) x.emits)

      to : EmitsTo g f facts (λ (k : Clock) (t : ℕ). t ≡ k.tsval) clock (peer_of (before_emit v facts)) w c r new c' → Dispatched facts clock c c' v new r
      to x = let k = both (peer_of (before_emit v facts)) x in record { table = k.0; same_buffer = k.1 }
