-- From the one call of `emit` to what a dispatch does.
use Rattle.std.proofs.Common.{◌≡◌, ◌∙◌, ap, List, ℕ, Bool, Option, Some, None, is_some, true, refl, sym, subst}
use Rattle.std.specs.Prelude.{Result, Ok, is_ok, option_map}
use Rattle.std.specs.Borrow.{MutBor}
use Rattle.std.specs.Option.{ForSome}
use Rattle.net_base.specs.declared.time.Instant.{Instant}
use Rattle.ip_wire.specs.declared.repr.IpRepr.{IpRepr}
use Rattle.control_wire.specs.Fits.{FitsPacket}
use Rattle.control_wire.specs.Segment.{Segment, segment_of}
use Rattle.control_wire.specs.declared.tcp.TcpRepr.{TcpRepr}
use Rattle.sock_core.specs.Emission.{Emits}
use Rattle.sock_core.specs.Facts.{Facts}
use Rattle.sock_tcp.specs.Begin.{Begun, going_on, ended, peer_of, before_emit}
use Rattle.sock_tcp.specs.Content.{Sending, asked, offset_of, plain_segment, finished, content}
use Rattle.sock_tcp.specs.Dispatch.{EmitTcp, packet_in, EmitsDue, EmitsIf, IsStamp, IsQuiet, EmitsTo, Dispatches}
use Rattle.sock_tcp.specs.Outgoing.{packet_of}
use Rattle.sock_tcp.specs.Queue.{IsLent}
use Rattle.std.proofs.lemmas.Option.{none-some, same_Some}
use Rattle.sock_tcp.specs.Rfc.Numbers.{numbered, outgoing}
use Rattle.sock_tcp.specs.Sent.{emitted_as, after_emit, left_by}
use Rattle.sock_tcp.specs.View.{View, moment_of}
use Rattle.sock_tcp.specs.declared.emission.Kind.{Kind}
use Rattle.sock_tcp.specs.declared.emission.Emitted.{Emitted}
use Rattle.sock_tcp.specs.declared.tuple.Tuple.{Tuple}

-- a number takes no room
numbered_fits : (v : View) (ip : IpRepr) (s : Segment) → FitsPacket ip s → FitsPacket ip (numbered v s)
numbered_fits v ip s h =
    record {
      header = record { scale = h.header.scale; permission = h.header.permission; ranges = h.header.ranges; options = h.header.options };
      protocol = h.protocol;
      octets = h.octets;
      total = h.total;
    }

outgoing_fits : (v : View) (o : Option Sending) → ForSome o (λ s. FitsPacket s.ip s.segment) → ForSome (outgoing v o) (λ s. FitsPacket s.ip s.segment)
outgoing_fits v None h x e = absurd (none-some x e)
outgoing_fits v (Some s) h x e = subst (λ (y : Sending). FitsPacket y.ip y.segment) (same_Some (record s { segment = numbered v s.segment }) x e) (numbered_fits v s.ip s.segment (h s refl))

module _ {F C E : Type 0} (g : EmitTcp F C E) (f : F) (facts : Facts) where
  -- the state has no segment
  pub silent : (t : Tuple) (stamp : Option ℕ) (v : View) (bytes : List ℕ) (plain : Segment) (c : C) → v.tuple ≡ Some t → IsLent v.tx_buffer (offset_of v) (asked v t facts) bytes → is_some stamp ≡ v.stamps → plain ≡ plain_segment v t stamp → None ≡ finished v t facts bytes plain → ForSome (content v t facts stamp bytes) (λ s. FitsPacket s.ip s.segment) → EmitsIf g f facts stamp v.tuple v c (Ok tt) v c
  unfolding content
  silent t stamp v bytes plain c peer lent some begins ends fits =
      let is : None ≡ content v t facts stamp bytes = ends ∙ ap (λ s. finished v t facts bytes s) begins in
      let due : EmitsDue g f facts t stamp v c (Ok tt) v c = record {
        stamped = some;
        bytes = bytes;
        lent = lent;
        emits = subst (λ (x : Option Sending). Emits g packet_of f (option_map packet_in (outgoing v x)) c (Ok tt) c) is (refl, refl);
        view = subst (λ x. v ≡ left_by x v (moment_of facts) true) is refl;
        fits = outgoing_fits v (content v t facts stamp bytes) fits;
      } in
      subst (λ o. EmitsIf g f facts stamp o v c (Ok tt) v c) (sym peer) due

  -- emit was called, and answered r
  pub emitted : (t : Tuple) (stamp : Option ℕ) (v : View) (bytes : List ℕ) (plain : Segment) (k : Kind) (made sent : IpRepr × TcpRepr) (now : Instant) (e : Emitted) (ok : Bool) (shown left : MutBor C) (r : Result (Unit {0}) E) (w : View) → v.tuple ≡ Some t → IsLent v.tx_buffer (offset_of v) (asked v t facts) bytes → is_some stamp ≡ v.stamps → plain ≡ plain_segment v t stamp → Some (record { ip = made.0; segment = segment_of made.1; kind = k }) ≡ finished v t facts bytes plain → now.micros ≡ facts.now → e ≡ emitted_as k (segment_of made.1) → sent.0 ≡ made.0 → segment_of sent.1 ≡ numbered v (segment_of made.1) → ok ≡ is_ok r → w ≡ after_emit ok v now e → g.post f (shown, (sent, tt)) (r, (left, tt)) → ForSome (content v t facts stamp bytes) (λ s. FitsPacket s.ip s.segment) → EmitsIf g f facts stamp v.tuple v shown.now r w left.now
  unfolding content
  emitted t stamp v bytes plain k made sent now e ok shown left r w peer lent some begins ends moment kept header segment answer h p fits =
      let is : Some (record { ip = made.0; segment = segment_of made.1; kind = k }) ≡ content v t facts stamp bytes = ends ∙ ap (λ s. finished v t facts bytes s) begins in
      let m : now ≡ moment_of facts = ap (λ x. record { micros = x }) moment in
      let a : after_emit ok v now e ≡ after_emit (is_ok r) v (moment_of facts) (emitted_as k (segment_of made.1)) = (λ i. after_emit (answer i) v (m i) (kept i)) in
      let due : EmitsDue g f facts t stamp v shown.now r w left.now = record {
        stamped = some;
        bytes = bytes;
        lent = lent;
        emits = subst (λ (x : Option Sending). Emits g packet_of f (option_map packet_in (outgoing v x)) shown.now r left.now) is (record { shown = shown; shows = refl; sent = sent; says = λ i. (header i, segment i); left = left; met = p; leaves = refl });
        view = subst (λ x. w ≡ left_by x v (moment_of facts) (is_ok r)) is (h ∙ a);
        fits = outgoing_fits v (content v t facts stamp bytes) fits;
      } in
      subst (λ o. EmitsIf g f facts stamp o v shown.now r w left.now) (sym peer) due

  module _ {G : Type 0} (tells : G → ℕ → Type 0) (clock : Option G) where
    -- nobody to emit to
    pub quiet : (u : View) (c : C) (v : View) → ended v ≡ before_emit u facts → Dispatches g f facts tells clock u c (Ok tt) v c
    unfolding Dispatches
    quiet u c v e = subst (λ (b : Begun). EmitsTo g f facts tells clock (peer_of b) b.view c (Ok tt) v c) e (record { answer = refl; context = refl; view = refl })

    -- it goes on to the peer, if any
    pub due : (u : View) (c c' : C) (v : View) (stamp : Option ℕ) (r : Result (Unit {0}) E) (w : View) → going_on v ≡ before_emit u facts → IsStamp tells clock stamp → EmitsIf g f facts stamp v.tuple v c r w c' → Dispatches g f facts tells clock u c r w c'
    unfolding Dispatches
    due u c c' v stamp r w e told h = subst (λ (b : Begun). EmitsTo g f facts tells clock (peer_of b) b.view c r w c') e (by v.tuple h)
      where
        by : (o : Option Tuple) → EmitsIf g f facts stamp o v c r w c' → EmitsTo g f facts tells clock o v c r w c'
        by None h = h
        by (Some t) h = record { stamp = stamp; told = told; emits = h }

    -- a dispatch with nobody to emit to
    pub is_quiet : (u : View) (c c' : C) (r : Result (Unit {0}) E) (w : View) → peer_of (before_emit u facts) ≡ None → Dispatches g f facts tells clock u c r w c' → IsQuiet (before_emit u facts).view c r w c'
    unfolding Dispatches
    is_quiet u c c' r w e h = subst (λ o. EmitsTo g f facts tells clock o (before_emit u facts).view c r w c') e h
