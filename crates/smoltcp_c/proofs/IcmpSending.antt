-- What an ICMP socket emits is a packet.
use Rattle.std.proofs.Common.{◌≡◌, ℕ, ◌≤◌, List, Bool, true, false, Option, Some, None, refl, subst, ap, ◌∙◌, pos, min}
use Rattle.std.specs.Prelude.{IfSome, Result, Ok, Err, is_ok, not, if◌then◌else◌}
use Rattle.std.specs.Borrow.{MutBor}
use Rattle.ip_wire.specs.declared.address.IpAddress.{IpAddress}
use Rattle.ip_wire.specs.declared.address.IpAddress.TheVariants as address
use Rattle.ip_wire.specs.declared.address.Ipv4Address.{Ipv4Address}
use Rattle.ip_wire.specs.declared.address.Ipv6Address.{Ipv6Address}
use Rattle.ip_wire.specs.declared.repr.IpRepr.{IpRepr}
use Rattle.ip_wire.specs.declared.repr.Ipv4Repr.{Ipv4Repr}
use Rattle.ip_wire.specs.declared.repr.Ipv6Repr.{Ipv6Repr}
use Rattle.control_wire.specs.Icmp.{Message, icmpv4_parsed, icmpv6_parsed}
use Rattle.net_base.specs.Packets.{first_packet}
use Rattle.control_wire.specs.declared.icmp.IcmpRepr.{IcmpRepr}
use Rattle.sock_core.specs.Emission.{Emit, Emits, EmitsAt}
use Rattle.sock_core.specs.Facts.{Facts}
use Rattle.sock_dgram.specs.Addressed.{Dispatches}
use Rattle.sock_dgram.specs.Icmp.{View}
use Rattle.sock_dgram.specs.IcmpDispatch.{Counts, Outgoing, from_first, from_ipv4, from_ipv6, from_source, outgoing, outgoing_of, to_remote}
use Rattle.sock_dgram.specs.UdpDispatch.{hops_of}
use Rattle.smoltcp_c.specs.Answers.{sent_answer}
use Rattle.smoltcp_c.specs.Icmp.{CountsMessage, EmitsMessage, WritesIf, WritesMessage, has_source, lacks_source, sent_len, sent_packet, sourced}
use Rattle.smoltcp_c.specs.Sends.{Puts, has_room}
use Rattle.smoltcp_c.specs.declared.wire.Full.{Full}
use Rattle.smoltcp_c.specs.declared.wire.Wire.{Wire}
use Rattle.smoltcp_c.proofs.Sending.{Sent, from_sent, quiet, written}

-- the header counts the message
abbrev Counted : Option Outgoing → Type 0
Counted o = IfSome o (λ o. Counts o.ip o.message)

of_ipv4 : (hops : ℕ) (src dst : Ipv4Address) (m : Option (Message Ipv4Repr)) → Counted (from_ipv4 hops src dst m)
of_ipv4 hops src dst None = tt
of_ipv4 hops src dst (Some m) = refl

of_ipv6 : (hops : ℕ) (src dst : Ipv6Address) (m : Option (Message Ipv6Repr)) → Counted (from_ipv6 hops src dst m)
of_ipv6 hops src dst None = tt
of_ipv6 hops src dst (Some m) = refl

of_source : (hops : ℕ) (src : Option Ipv4Address) (dst : Ipv4Address) (bs : List ℕ) → Counted (from_source hops src dst bs)
of_source hops None dst bs = tt
of_source hops (Some src) dst bs = of_ipv4 hops src dst (icmpv4_parsed false bs)

of_remote : (hops : ℕ) (f : Facts) (dst : IpAddress) (bs : List ℕ) → Counted (to_remote hops f dst bs)
unfolding to_remote
of_remote hops f (address.Ipv4 dst) bs = of_source hops (f.source_ipv4 dst) dst bs
of_remote hops f (address.Ipv6 dst) bs = of_ipv6 hops (f.source_ipv6 dst) dst (icmpv6_parsed false (f.source_ipv6 dst) dst bs)

of_first : (v : View) (f : Facts) (d : Option (IpAddress × List ℕ)) → Counted (from_first v f d)
of_first v f None = tt
of_first v f (Some d) = of_remote (hops_of v.hop_limit) f d.0 d.1

pub counted : (v : View) (f : Facts) (o : Outgoing) → sourced (outgoing v f) ≡ Some o → sent_len o ≤ 65535 → CountsMessage o.ip o.message
counted v f o e short = record { counted = subst Counted e (kept (outgoing v f) (of_first v f (first_packet v.tx_buffer))); total = short }
  where
    chosen : (b : Bool) (x : Outgoing) → Counted (Some x) → Counted (if b then Some x else None)
    chosen true x h = h
    chosen false x h = tt

    kept : (x : Option Outgoing) → Counted x → Counted (sourced x)
    kept None h = tt
    kept (Some x) h = chosen (has_source x) x h

-- ---- the whole of a dispatch, whose emit writes nothing where a message has no source

module _ {F : Type 0} (g : Emit F Wire (IpRepr × IcmpRepr) Full) (f : F) (says : (shown left : MutBor Wire) (s : IpRepr × IcmpRepr) (r : Result (Unit {0}) Full) → g.post f (shown, (s, tt)) (r, (left, tt)) → WritesMessage (outgoing_of s) shown.now r left.now) where
  wrote : (c c' : Wire) (o : Outgoing) (r : Result (Unit {0}) Full) → EmitsAt g outgoing_of f c o r c' → WritesMessage o c r c'
  wrote c c' o r e =
      let a : WritesMessage (outgoing_of e.sent) e.shown.now r e.left.now = says e.shown e.left e.sent r e.met in
      let b : WritesMessage o e.shown.now r e.left.now = subst (λ (x : Outgoing). WritesMessage x e.shown.now r e.left.now) e.says a in
      subst (λ y. WritesMessage o c r y) e.leaves (subst (λ y. WritesMessage o y r e.left.now) e.shows b)

  -- what was written, and that the wire remembers a message without a source
  pub record Wrote (o : Option Outgoing) (c c' : Wire) (r : Result (Unit {0}) Full) : Type 0 where
    pub sent : Sent sent_len sent_packet (has_room sent_len sent_packet (sourced o) c.out.now) (sourced o) c c' r
    pub told : c'.unsourced ≡ lacks_source o

  -- a message without a source is not written
  silent : (c c' : Wire) (r : Result (Unit {0}) Full) → c.len ≡ 0 → r ≡ Ok tt → c' ≡ record c { unsourced = true } → Sent sent_len sent_packet true None c c' r
  silent c c' r zero a e =
      record {
        answer = ap (λ x. sent_answer x c'.len) a ∙ ap (λ (y : Wire). pos (min y.len 65535)) e ∙ ap (λ n. pos (min n 65535)) zero;
        written = ap (λ (y : Wire). y.out.now) e;
        ok = ap is_ok a;
        same_buffer = ap (λ (y : Wire). y.out.ghost_name) e;
      }

  put_told : (c c' : Wire) (P : Type 0) (n : ℕ) (bs : List ℕ) (r : Result (Unit {0}) Full) → Puts P n bs c r c' → c'.unsourced ≡ c.unsourced
  put_told c c' P n bs (Ok u) w = w.sourced
  put_told c c' P n bs (Err d) w = ap (λ (y : Wire). y.unsourced) w.1

  one : (c c' : Wire) (o : Outgoing) (r : Result (Unit {0}) Full) → c.len ≡ 0 → c.unsourced ≡ false → ((x : Outgoing) → sourced (Some o) ≡ Some x → sent_len x ≤ 65535 → CountsMessage x.ip x.message) → WritesMessage o c r c' → Wrote (Some o) c c' r
  one c c' o r zero clear is w = let k = go (has_source o) is w in record { sent = k.0; told = k.1 }
    where
      go : (b : Bool) → ((x : Outgoing) → (if b then Some o else None) ≡ Some x → sent_len x ≤ 65535 → CountsMessage x.ip x.message) → WritesIf b o c r c' → Sent sent_len sent_packet (has_room sent_len sent_packet (if b then Some o else None) c.out.now) (if b then Some o else None) c c' r × (c'.unsourced ≡ not b)
      go true is w = (written sent_len sent_packet (λ x. CountsMessage x.ip x.message) c c' o r (is o refl) w, put_told c c' (CountsMessage o.ip o.message) (sent_len o) (sent_packet o) r w ∙ clear)
      go false is w = (silent c c' r zero w.0 w.1, ap (λ (y : Wire). y.unsourced) w.1)

  pub record Done (f' : Facts) (c c' : Wire) (v w : View) (r : Result (Unit {0}) Full) : Type 0 where
    pub table : EmitsMessage f' v c.out.now (sent_answer r c'.len) w c'.out.now
    pub told : c'.unsourced ≡ lacks_source (outgoing v f')
    pub same_buffer : c'.out.ghost_name ≡ c.out.ghost_name

  pub dispatched : (f' : Facts) (c c' : Wire) (v w : View) (r : Result (Unit {0}) Full) → c.len ≡ 0 → c.unsourced ≡ false → Dispatches (λ x. outgoing x f') outgoing_of g f v c r c' w → Done f' c c' v w r
  dispatched f' c c' v w r zero clear d = record { table = k.0; told = (all (outgoing v f') (counted v f') d.emits).told; same_buffer = k.1 }
    where
      all : (o : Option Outgoing) → ((x : Outgoing) → sourced o ≡ Some x → sent_len x ≤ 65535 → CountsMessage x.ip x.message) → Emits g outgoing_of f o c r c' → Wrote o c c' r
      all None is e = record { sent = quiet sent_len sent_packet c c' r zero e.0 e.1; told = ap (λ (y : Wire). y.unsourced) e.1 ∙ clear }
      all (Some o) is e = one c c' o r zero clear is (wrote c c' o r e)

      k : EmitsMessage f' v c.out.now (sent_answer r c'.len) w c'.out.now × (c'.out.ghost_name ≡ c.out.ghost_name)
      k = from_sent sent_len sent_packet outgoing_of g f (λ x. outgoing x f') (sourced (outgoing v f')) c c' v w r (all (outgoing v f') (counted v f') d.emits).sent d
