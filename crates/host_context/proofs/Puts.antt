-- A dispatch whose emit does what another may do; and a segment that is processed while the packets are held apart.
use Rattle.std.proofs.Common.{◌≡◌, ℕ, List, [], ◌∷◌, ◌++◌, Bool, true, false, Option, Some, None, sym, ap, ◌∙◌, subst}
use Rattle.std.specs.Prelude.{Result, Ok, IfOk, OnErr, option_map, is_some}
use Rattle.std.specs.Option.{ForSome}
use Rattle.std.specs.declared.alloc.AllocError.{AllocError}
use Rattle.std.specs.Borrow.{MutBor}
use Rattle.ip_wire.specs.declared.repr.IpRepr.{IpRepr}
use Rattle.ip_wire.specs.Checksum.{is_sent}
use Rattle.ip_wire.specs.Packet.{header_octets}
use Rattle.ip_wire.specs.declared.repr.IpRepr.TheVariants as header
use Rattle.ip_wire.specs.declared.repr.Ipv4Repr.{Ipv4Repr}
use Rattle.control_wire.specs.Fits.{FitsPacket}
use Rattle.control_wire.specs.Icmp.{icmpv4_octets, message_v4}
use Rattle.control_wire.specs.declared.icmp.IcmpRepr.{IcmpRepr}
use Rattle.control_wire.specs.declared.icmp.IcmpRepr.TheVariants as icmp
use Rattle.control_wire.specs.declared.icmp.Icmpv4Repr.{Icmpv4Repr}
use Rattle.control_wire.specs.Segment.{Segment, segment_of}
use Rattle.control_wire.specs.declared.tcp.TcpControl.{TcpControl}
use Rattle.control_wire.specs.declared.tcp.TcpRepr.{TcpRepr}
use Rattle.control_wire.specs.declared.tcp.TcpTimestampRepr.{TcpTimestampRepr}
use Rattle.ip_wire.specs.declared.checksum.ChecksumCapabilities.{ChecksumCapabilities}
use Rattle.segment_wire.specs.Packet.{TcpPacket, tcp_packet}
use Rattle.sock_core.specs.Emission.{Emits}
use Rattle.sock_core.specs.Facts.{Facts}
use Rattle.sock_tcp.specs.Rfc.Numbers.{outgoing}
use Rattle.sock_tcp.specs.Begin.{before_emit, peer_of}
use Rattle.sock_tcp.specs.Content.{content}
use Rattle.sock_tcp.specs.Dispatch.{Dispatches, EmitTcp, EmitsTo, packet_in}
use Rattle.sock_tcp.specs.Draw.{Draws, draws}
use Rattle.sock_tcp.specs.Outgoing.{packet_of}
use Rattle.sock_tcp.specs.Process.{Processes, reply_of}
use Rattle.sock_tcp.specs.Verdict.{verdict_of}
use Rattle.sock_tcp.specs.View.{View}
use Rattle.sock_tcp.specs.declared.tuple.Tuple.{Tuple}
use Rattle.host_context.specs.Layer.{Hears, PutsTcp, puts_tcp, with_reply}
use Rattle.host_context.specs.Outbox.{CarriesTcp, icmp_packet, octets, with_packet}
use Rattle.host_context.specs.declared.interface.Interface.{Interface}
use Rattle.host_context.specs.declared.outbox.Outbox.{Outbox}

-- a segment that fits a packet is counted by its header
pub carries : (ip : IpRepr) (s : Segment) → FitsPacket ip s → CarriesTcp ip s
carries ip s fits = record { options = fits.header.options; counted = fits.octets; protocol = fits.protocol }

-- the packet of an answer that a socket gave
pub answered : (caps : ChecksumCapabilities) (old new : List (List ℕ)) (r : Result (Unit {0}) AllocError) (o : Option (IpRepr × TcpRepr)) (ip : IpRepr) (repr : TcpRepr) → o ≡ Some (ip, repr) → ForSome (option_map reply_of o) (λ x. FitsPacket x.0 x.1) → (CarriesTcp ip (segment_of repr) → IfOk r (λ _. new ≡ old ++ tcp_packet caps ip (segment_of repr) ∷ [])) → IfOk r (λ _. new ≡ with_reply caps old o)
answered caps old new r o ip repr e fits added =
    let f : FitsPacket ip (segment_of repr) = fits (ip, segment_of repr) (ap (option_map reply_of) e) in
    subst (λ x. IfOk r (λ _. new ≡ with_reply caps old x)) (sym e) (added (carries ip (segment_of repr) f))

-- the packet of an ICMP message over IPv4
pub icmp_over_ipv4 : (caps : ChecksumCapabilities) (old new : List (List ℕ)) (r : Result (Unit {0}) AllocError) (ip : IpRepr) (h : Ipv4Repr) (repr : IcmpRepr) (m : Icmpv4Repr) → ip ≡ header.Ipv4 h → repr ≡ icmp.Ipv4 m → IfOk r (λ _. new ≡ old ++ (header_octets (is_sent caps.ipv4) ip ++ icmpv4_octets caps (message_v4 m)) ∷ []) → IfOk r (λ _. new ≡ with_packet old (icmp_packet caps ip repr))
icmp_over_ipv4 caps old new r ip h repr m e d added =
    subst (λ x. IfOk r (λ _. new ≡ with_packet old (icmp_packet caps ip x))) (sym d) (subst (λ x. IfOk r (λ _. new ≡ with_packet old (icmp_packet caps x (icmp.Ipv4 m)))) (sym e) (subst (λ x. IfOk r (λ _. new ≡ old ++ (header_octets (is_sent caps.ipv4) x ++ icmpv4_octets caps (message_v4 m)) ∷ [])) e added))

module _ {W : Type 0} (facts : Interface W Outbox → Facts) (word_at : Interface W Outbox → ℕ → ℕ) (told : (x : Interface W Outbox) → (facts x).checksums ≡ x.checksums) where
  same_checksums : (b : Bool) (x y : Interface W Outbox) → Draws b facts word_at x y → y.checksums ≡ x.checksums
  same_checksums true x y d = sym (told y) ∙ ap (λ (f : Facts). f.checksums) d.same ∙ told x
  same_checksums false x y d = ap (λ (z : Interface W Outbox). z.checksums) d

  pub heard : (stamped : TcpPacket → TcpControl → Option TcpTimestampRepr → Type 0) (v w : View) (i before after back j : Interface W Outbox) (q p : TcpPacket) (reply : Option (IpRepr × TcpRepr)) (r : Result Bool AllocError) → q ≡ p → before ≡ record i { outbox = before.outbox } → Processes facts word_at (stamped q) v before q.ip q.segment reply w after → back ≡ record after { outbox = back.outbox } → back.outbox.packets.items ≡ i.outbox.packets.items → j ≡ record back { outbox = j.outbox } → IfOk r (λ b. b ≡ true) → IfOk r (λ _. octets j.outbox.packets.items ≡ with_reply back.checksums (octets back.outbox.packets.items) reply) → OnErr r (j.outbox.packets.items ≡ back.outbox.packets.items) → Hears facts word_at (stamped p) v i p r w j
  heard stamped v w i before after back j q p reply r e held processes again packets left answer added kept =
      let caps : back.checksums ≡ i.checksums = ap (λ (z : Interface W Outbox). z.checksums) again ∙ same_checksums (draws (verdict_of v q.segment.control q.segment.ack_number) v.state q.segment.control) before after processes.context ∙ ap (λ (z : Interface W Outbox). z.checksums) held in
      record {
        reply = reply;
        before = before;
        after = after;
        told = held;
        processes = subst (λ x. Processes facts word_at (stamped x) v before x.ip x.segment reply w after) e processes;
        left = left ∙ ap (λ (y : Interface W Outbox). record y { outbox = j.outbox }) again;
        answer = answer;
        added = subst (λ c. IfOk r (λ _. octets j.outbox.packets.items ≡ with_reply c (octets i.outbox.packets.items) reply)) caps (subst (λ ps. IfOk r (λ _. octets j.outbox.packets.items ≡ with_reply back.checksums (octets ps) reply)) packets added);
        kept = subst (λ ps. OnErr r (j.outbox.packets.items ≡ ps)) packets kept;
      }

module _ {F K C E : Type 0} (g : EmitTcp F C E) (f : F) (h : EmitTcp K C E) (k : K) (says : (shown left : MutBor C) (s : IpRepr × TcpRepr) (r : Result (Unit {0}) E) → g.post f (shown, (s, tt)) (r, (left, tt)) → h.post k (shown, (s, tt)) (r, (left, tt))) (c c' : C) (r : Result (Unit {0}) E) where
  emits : (o : Option (IpRepr × Segment)) → Emits g packet_of f o c r c' → Emits h packet_of k o c r c'
  emits None x = x
  emits (Some s) x = record { shown = x.shown; shows = x.shows; sent = x.sent; says = x.says; left = x.left; met = says x.shown x.left x.sent r x.met; leaves = x.leaves }

  module _ (facts : Facts) {G : Type 0} (tells : G → ℕ → Type 0) (clock : Option G) where
    to : (o : Option Tuple) (v w : View) → EmitsTo g f facts tells clock o v c r w c' → EmitsTo h k facts tells clock o v c r w c'
    to None v w x = x
    to (Some t) v w x =
        record {
          stamp = x.stamp;
          told = x.told;
          emits = record {
            stamped = x.emits.stamped;
            bytes = x.emits.bytes;
            lent = x.emits.lent;
            emits = emits (option_map packet_in (outgoing v (content v t facts x.stamp x.emits.bytes))) x.emits.emits;
            view = x.emits.view;
            fits = x.emits.fits;
          };
        }

    pub dispatches : (v w : View) → Dispatches g f facts tells clock v c r w c' → Dispatches h k facts tells clock v c r w c'
    unfolding Dispatches
    dispatches v w x = to (peer_of (before_emit v facts)) (before_emit v facts).view w x

-- ---- what a dispatch leaves, whose emit puts a packet into the outbox

module _ {W : Type 0} (c c' : Interface W Outbox) (r : Result (Unit {0}) AllocError) where
  -- after an error the packets are those of before, and but for the outbox nothing changes at all
  pub record Leaves : Type 0 where
    pub kept : OnErr r (c'.outbox.packets.items ≡ c.outbox.packets.items)
    pub same : c' ≡ record c { outbox = c'.outbox }

  quiet : r ≡ Ok tt → c' ≡ c → Leaves
  quiet a e = record { kept = subst (λ x. OnErr x (c'.outbox.packets.items ≡ c.outbox.packets.items)) (sym a) tt; same = e ∙ ap (λ (y : Interface W Outbox). record c { outbox = y.outbox }) (sym e) }

  put : (shown left : Interface W Outbox) (ip : IpRepr) (s : Segment) → PutsTcp ip s shown r left → shown ≡ c → left ≡ c' → Leaves
  put shown left ip s p a b = record {
    kept = subst (λ y. OnErr r (y.outbox.packets.items ≡ c.outbox.packets.items)) b (subst (λ y. OnErr r (left.outbox.packets.items ≡ y.outbox.packets.items)) a p.kept);
    same = subst (λ y. y ≡ record c { outbox = y.outbox }) b (subst (λ y. left ≡ record y { outbox = left.outbox }) a p.same);
  }

  emitted : (o : Option (IpRepr × Segment)) → Emits puts_tcp packet_of tt o c r c' → Leaves
  emitted None x = quiet x.0 x.1
  emitted (Some s) x = put x.shown.now x.left.now x.sent.0 (segment_of x.sent.1) x.met x.shows x.leaves

  module _ (facts : Facts) {G : Type 0} (tells : G → ℕ → Type 0) (clock : Option G) where
    given : (o : Option Tuple) (v w : View) → EmitsTo puts_tcp tt facts tells clock o v c r w c' → Leaves
    given None v w x = quiet x.answer x.context
    given (Some t) v w x = emitted (option_map packet_in (outgoing v (content v t facts x.stamp x.emits.bytes))) x.emits.emits

    pub leaves : (v w : View) → Dispatches puts_tcp tt facts tells clock v c r w c' → Leaves
    unfolding Dispatches
    leaves v w x = given (peer_of (before_emit v facts)) (before_emit v facts).view w x
