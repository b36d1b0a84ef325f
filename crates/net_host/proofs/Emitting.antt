-- From the one call of `emit` to what stands in the buffer: a dispatch with one emit is one with another, where each
-- call of the first is one of the second.
use Rattle.std.proofs.Common.{ℕ, Bool, List, Option, Some, None, ap, subst, sym}
use Rattle.std.specs.Prelude.{Result, Ok}
use Rattle.std.specs.Borrow.{Bor, MutBor}
use Rattle.ip_wire.specs.declared.repr.IpRepr.{IpRepr}
use Rattle.control_wire.specs.declared.tcp.TcpRepr.{TcpRepr}
use Rattle.sock_core.specs.Emission.{Emit, Emits}
use Rattle.sock_core.specs.Facts.{Facts}
use Rattle.sock_dgram.specs.Addressed as addressed
use Rattle.sock_dgram.specs.Raw as raw
use Rattle.sock_dgram.specs.RawDispatch as raw_dispatch
use Rattle.sock_tcp.specs.Dispatch.{Dispatches, EmitsTo, EmitTcp}
use Rattle.sock_tcp.specs.View.{View}
use Rattle.sock_tcp.specs.declared.tuple.Tuple.{Tuple}

module _ {F F2 C C2 S E : Type 0} (m : C → C2) (g : Emit F C S E) (f : F) (g2 : Emit F2 C2 S E) (f2 : F2) where
  -- each call of the first is one of the second
  abbrev pub Becomes : Type 0
  Becomes =
      (shown left : MutBor C) (s : S) (r : Result (Unit {0}) E) → g.post f (shown, (s, tt)) (r, (left, tt))
      → g2.post f2 (record { ref_ptr = shown.ref_ptr; ghost_name = shown.ghost_name; now = m shown.now }, (s, tt))
      (r, (record { ref_ptr = left.ref_ptr; ghost_name = left.ghost_name; now = m left.now }, tt))

  pub emits : {V : Type 0} (meaning : S → V) → Becomes → (o : Option V) (c c' : C) (r : Result (Unit {0}) E) → Emits g meaning f o c r c' → Emits g2 meaning f2 o (m c) r (m c')
  emits meaning says None c c' r h = (h.0, ap m h.1)
  emits meaning says (Some v) c c' r h = record {
    shown = record { ref_ptr = h.shown.ref_ptr; ghost_name = h.shown.ghost_name; now = m h.shown.now };
    shows = ap m h.shows;
    sent = h.sent;
    says = h.says;
    left = record { ref_ptr = h.left.ref_ptr; ghost_name = h.left.ghost_name; now = m h.left.now };
    met = says h.shown h.left h.sent r h.met;
    leaves = ap m h.leaves;
  }

module _ {F F2 C C2 E G : Type 0} (m : C → C2) (g : EmitTcp F C E) (f : F) (g2 : EmitTcp F2 C2 E) (f2 : F2) (says : Becomes m g f g2 f2) where
  to : (facts : Facts) (tells : G → ℕ → Type 0) (clock : Option G) (o : Option Tuple) (v w : View) (c c' : C) (r : Result (Unit {0}) E) → EmitsTo g f facts tells clock o v c r w c' → EmitsTo g2 f2 facts tells clock o v (m c) r w (m c')
  to facts tells clock None v w c c' r h = record { answer = h.answer; context = ap m h.context; view = h.view }
  to facts tells clock (Some t) v w c c' r h = record {
    stamp = h.stamp;
    told = h.told;
    emits = record {
      stamped = h.emits.stamped;
      bytes = h.emits.bytes;
      lent = h.emits.lent;
      emits = emits m g f g2 f2 _ says _ c c' r h.emits.emits;
      view = h.emits.view;
      fits = h.emits.fits;
    };
  }

  pub dispatches : (facts : Facts) (tells : G → ℕ → Type 0) (clock : Option G) (v w : View) (c c' : C) (r : Result (Unit {0}) E) → Dispatches g f facts tells clock v c r w c' → Dispatches g2 f2 facts tells clock v (m c) r w (m c')
  unfolding Dispatches
  dispatches facts tells clock v w c c' r h = to facts tells clock _ _ w c c' r h

-- what each call keeps, a dispatch keeps
module _ {F C S E : Type 0} (Q : C → Result (Unit {0}) E → C → Type 0) (same : (c : C) → Q c (Ok tt) c) (g : Emit F C S E) (f : F) (says : (shown left : MutBor C) (s : S) (r : Result (Unit {0}) E) → g.post f (shown, (s, tt)) (r, (left, tt)) → Q shown.now r left.now) where
  pub keeps : {V : Type 0} (meaning : S → V) (o : Option V) (c c' : C) (r : Result (Unit {0}) E) → Emits g meaning f o c r c' → Q c r c'
  keeps meaning None c c' r h = subst (λ q. Q c q c') (sym h.0) (subst (Q c (Ok tt)) (sym h.1) (same c))
  keeps meaning (Some v) c c' r h = subst (λ x. Q x r c') h.shows (subst (λ x. Q h.shown.now r x) h.leaves (says h.shown h.left h.sent r h.met))

module _ {F C E G : Type 0} (Q : C → Result (Unit {0}) E → C → Type 0) (same : (c : C) → Q c (Ok tt) c) (g : EmitTcp F C E) (f : F) (says : (shown left : MutBor C) (s : IpRepr × TcpRepr) (r : Result (Unit {0}) E) → g.post f (shown, (s, tt)) (r, (left, tt)) → Q shown.now r left.now) where
  to_keeps : (facts : Facts) (tells : G → ℕ → Type 0) (clock : Option G) (o : Option Tuple) (v w : View) (c c' : C) (r : Result (Unit {0}) E) → EmitsTo g f facts tells clock o v c r w c' → Q c r c'
  to_keeps facts tells clock None v w c c' r h = subst (λ q. Q c q c') (sym h.answer) (subst (Q c (Ok tt)) (sym h.context) (same c))
  to_keeps facts tells clock (Some t) v w c c' r h = keeps Q same g f says _ _ c c' r h.emits.emits

  pub dispatch_keeps : (facts : Facts) (tells : G → ℕ → Type 0) (clock : Option G) (v w : View) (c c' : C) (r : Result (Unit {0}) E) → Dispatches g f facts tells clock v c r w c' → Q c r c'
  unfolding Dispatches
  dispatch_keeps facts tells clock v w c c' r h = to_keeps facts tells clock _ _ w c c' r h

-- ---- a UDP or an ICMP socket

module _ {F F2 C C2 S A O : Type 0} (m : C → C2) (g : Emit F C S A) (f : F) (g2 : Emit F2 C2 S A) (f2 : F2) (says : Becomes m g f g2 f2) where
  pub dispatches_packet : {E M : Type 0} (outgoing : addressed.View E M → Option O) (meaning : S → O) (v w : addressed.View E M) (c c' : C) (r : Result (Unit {0}) A) → addressed.Dispatches outgoing meaning g f v c r c' w → addressed.Dispatches outgoing meaning g2 f2 v (m c) r (m c') w
  dispatches_packet outgoing meaning v w c c' r h = record {
    emits = emits m g f g2 f2 meaning says (outgoing v) c c' r h.emits;
    queue = h.queue;
    sent = h.sent;
    failed = h.failed;
    again = h.again;
    same = h.same;
  }

-- ---- a raw socket

module _ {F F2 C C2 A : Type 0} (m : C → C2) (g : Emit F C (IpRepr × Bor (List ℕ)) A) (f : F) (g2 : Emit F2 C2 (IpRepr × Bor (List ℕ)) A) (f2 : F2) (says : Becomes m g f g2 f2) where
  pub dispatches_raw : (sent : Bool) (v w : raw.View) (c c' : C) (r : Result (Unit {0}) A) → raw_dispatch.Dispatched g f sent v c r c' w → raw_dispatch.Dispatched g2 f2 sent v (m c) r (m c') w
  dispatches_raw sent v w c c' r h = record {
    planned = h.planned;
    plans = h.plans;
    emits = emits m g f g2 f2 _ says h.planned c c' r h.emits;
    queue = h.queue;
    emitted = h.emitted;
    failed = h.failed;
    again = h.again;
    same = h.same;
  }
