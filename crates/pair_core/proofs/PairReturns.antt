-- From what a host did to what the pair did.
use Rattle.std.proofs.Common.{◌≡◌, ℕ, ◌+◌, ◌≤◌, Bool, true, false, List, length, Option, Some, refl, sym, ap, subst, ◌∙◌, arith}
use Rattle.std.specs.List.{Contains}
use Rattle.std.specs.Prelude.{Result, Ok, Err, IfOk, OnErr, slice_get}
use Rattle.pair_core.specs.PairSteps.{OneSide, OneSideAndSegments, IsUnchanged, exchanged, is_too_old, is_old, DeliversTo, Delivers, DeliveryTakesMemory, TakesRoom}
use Rattle.pair_core.specs.Aging.{DeliversAt, TakesRoomAt}
use Rattle.pair_core.specs.PairNetwork.{network_of}
use Rattle.pair_core.specs.Sides.{other_side}
use Rattle.pair_core.specs.declared.moment.Moment.{Moment}
use Rattle.std.proofs.lemmas.Option.{slice_get_within, get_or_from_slice_get}
use Rattle.pair_core.proofs.NetworkRuns.{both_delivered}
use Rattle.pair_core.specs.PairViews.{HostView, StoredView, PairView, host_of, with_host}
use Rattle.pair_core.specs.PairInvariant.{IsPair}
use Rattle.sock_tcp.specs.Queues.{may_send}
use Rattle.pair_core.specs.PairCalls.{Sends, SendsUnder, SendsIf, is_over}
use Rattle.pair_core.specs.declared.outcome.Outcome.{Outcome}
use Rattle.pair_core.specs.declared.outcome.Outcome.TheVariants as outcome
use Rattle.pair_core.specs.declared.outcome.PairError.{PairError}
use Rattle.pair_core.specs.declared.side.Side.{Side}
use Rattle.pair_core.specs.declared.side.Side.TheVariants.{A, B}

pub one_side : {G : Type 0} (Changes : Side → PairView G → HostView G → HostView G → Type 0) (s s' : Side) (p v : PairView G) (k : HostView G) → s' ≡ s → p ≡ v → Changes s p (host_of s p) k → OneSide s' v (with_host s p k) (Changes s' v)
one_side Changes s s' p v k e f d = subst (λ x. OneSide x v (with_host s p k) (Changes x v)) (sym e) (subst (λ y. OneSide s y (with_host s p k) (Changes s y)) f (record { host = k; does = d; same = refl }))

pub with_segments : {G : Type 0} (Changes : Side → PairView G → HostView G → List StoredView → HostView G → List StoredView → Type 0) (s s' : Side) (p v : PairView G) (k : HostView G) (ts : List StoredView) → s' ≡ s → p ≡ v → Changes s p (host_of s p) p.segments k ts → OneSideAndSegments s' v (exchanged s p k ts) (Changes s' v)
with_segments Changes s s' p v k ts e f d = subst (λ x. OneSideAndSegments x v (exchanged s p k ts) (Changes x v)) (sym e) (subst (λ y. OneSideAndSegments s y (exchanged s p k ts) (Changes s y)) f (record { host = k; segments = ts; does = d; same = refl }))

-- ---- of a call that may be refused for memory

pub one_side_if : {G : Type 0} (Changes : Side → PairView G → Outcome → HostView G → HostView G → Type 0) (s s' : Side) (p v : PairView G) (k : HostView G) (r : Result Outcome PairError) → s' ≡ s → p ≡ v → IfOk r (λ o. Changes s p o (host_of s p) k) → IfOk r (λ o. OneSide s' v (with_host s p k) (Changes s' v o))
one_side_if Changes s s' p v k (Ok o) e f d = one_side (λ x y. Changes x y o) s s' p v k e f d
one_side_if Changes s s' p v k (Err x) e f d = tt

pub with_segments_if : {G : Type 0} (Changes : Side → PairView G → Outcome → HostView G → List StoredView → HostView G → List StoredView → Type 0) (s s' : Side) (p v : PairView G) (k : HostView G) (ts : List StoredView) (r : Result Outcome PairError) → s' ≡ s → p ≡ v → IfOk r (λ o. Changes s p o (host_of s p) p.segments k ts) → IfOk r (λ o. OneSideAndSegments s' v (exchanged s p k ts) (Changes s' v o))
with_segments_if Changes s s' p v k ts (Ok o) e f d = with_segments (λ x y. Changes x y o) s s' p v k ts e f d
with_segments_if Changes s s' p v k ts (Err x) e f d = tt

pub same_host : {G : Type 0} (s : Side) (p : PairView G) → with_host s p (host_of s p) ≡ p
same_host A p = refl
same_host B p = refl

pub same_exchange : {G : Type 0} (s : Side) (p : PairView G) → exchanged s p (host_of s p) p.segments ≡ p
same_exchange A p = refl
same_exchange B p = refl

-- what an answer leaves of the invariant, where a refusal leaves the host as it was
pub kept_if : {G : Type 0} (D : Outcome → Type 0) (s : Side) (p : PairView G) (k : HostView G) (r : Result Outcome PairError) → IsPair p → IfOk r D → OnErr r (k ≡ host_of s p) → ((o : Outcome) → D o → IsPair (with_host s p k)) → IsPair (with_host s p k)
kept_if D s p k (Ok o) i d e f = f o d
kept_if D s p k (Err x) i d e f = subst IsPair (sym (ap (with_host s p) e ∙ same_host s p)) i

pub kept_with_segments_if : {G : Type 0} (D : Outcome → Type 0) (s : Side) (p : PairView G) (k : HostView G) (ts : List StoredView) (r : Result Outcome PairError) → IsPair p → IfOk r D → OnErr r (IsUnchanged (host_of s p) p.segments k ts) → ((o : Outcome) → D o → IsPair (exchanged s p k ts)) → IsPair (exchanged s p k ts)
kept_with_segments_if D s p k ts (Ok o) i d e f = f o d
kept_with_segments_if D s p k ts (Err x) i d e f = subst IsPair (sym (ap (λ h. exchanged s p h ts) e.0 ∙ ap (exchanged s p (host_of s p)) e.1 ∙ same_exchange s p)) i

-- ---- the limit

-- whether the bytes are over the limit, as the pair was
pub over_as : {G : Type 0} (s s' : Side) (p v : PairView G) (n : ℕ) (b x : Bool) → s' ≡ s → p ≡ v → b ≡ is_over v.limit (length (host_of s' v).accepted + n) → b ≡ x → is_over p.limit (length (host_of s p).accepted + n) ≡ x
over_as s s' p v n b x e f d is =
    let a : is_over v.limit (length (host_of s' v).accepted + n) ≡ is_over v.limit (length (host_of s v).accepted + n) = ap (λ y. is_over v.limit (length (host_of y v).accepted + n)) e in
    let c : is_over p.limit (length (host_of s p).accepted + n) ≡ is_over v.limit (length (host_of s v).accepted + n) = ap (λ (y : PairView _). is_over y.limit (length (host_of s y).accepted + n)) f in
    c ∙ sym a ∙ sym d ∙ is

pub sends_under : {G : Type 0} (limit size : Option ℕ) (bs : List ℕ) (h k : HostView G) (r : Result Outcome PairError) → is_over limit (length h.accepted + length bs) ≡ false → IfOk r (λ o. SendsIf (may_send h.control_block.state) size bs h o k) → IfOk r (λ o. Sends limit size bs h o k)
sends_under limit size bs h k (Ok o) e d = subst (λ b. SendsUnder b size bs h o k) (sym e) d
sends_under limit size bs h k (Err x) e d = tt

pub is_refused : {G : Type 0} (s : Side) (v : PairView G) (size : Option ℕ) (bs : List ℕ) → is_over v.limit (length (host_of s v).accepted + length bs) ≡ true → OneSide s v v (λ h k. Sends v.limit size bs h outcome.StreamLimit k)
is_refused s v size bs e = record { host = host_of s v; does = subst (λ b. SendsUnder b size bs (host_of s v) outcome.StreamLimit (host_of s v)) (sym e) (refl, refl); same = sym (same_host s v) }

-- ---- deliveries

module _ {G : Type 0} (tells : G → ℕ → Type 0) (m : Moment) (o : Outcome) (t : StoredView) where
  -- the table of a delivery, over the counts that the code read
  delivers_at : (s : Side) (p : PairView G) (n : ℕ) (k : HostView G) (ts : List StoredView) (released taken : ℕ) → slice_get p.segments n ≡ Some t → released ≡ (host_of t.emitter p).released → taken ≡ (host_of t.emitter p).taken → DeliversAt tells (slice_get p.segments n) released taken s m o (host_of s p) p.segments k ts → DeliversTo tells (is_old (host_of t.emitter p) t) s m t o (host_of s p) p.segments k ts
  delivers_at s p n k ts released taken at er et d =
      let one : DeliversTo tells (is_too_old t.released_at released t.taken_at taken) s m t o (host_of s p) p.segments k ts = subst (λ x. DeliversAt tells x released taken s m o (host_of s p) p.segments k ts) at d in
      let two : DeliversTo tells (is_too_old t.released_at (host_of t.emitter p).released t.taken_at taken) s m t o (host_of s p) p.segments k ts = subst (λ r. DeliversTo tells (is_too_old t.released_at r t.taken_at taken) s m t o (host_of s p) p.segments k ts) er one in
      subst (λ r. DeliversTo tells (is_too_old t.released_at (host_of t.emitter p).released t.taken_at r) s m t o (host_of s p) p.segments k ts) et two

  pub delivers_to : (s : Side) (p : PairView G) (n : ℕ) (k : HostView G) (ts : List StoredView) (released taken : ℕ) → slice_get p.segments n ≡ Some t → t.emitter ≡ other_side s → released ≡ (host_of (other_side s) p).released → taken ≡ (host_of (other_side s) p).taken → DeliversAt tells (slice_get p.segments n) released taken s m o (host_of s p) p.segments k ts → DeliversTo tells (is_old (host_of t.emitter p) t) s m t o (host_of s p) p.segments k ts
  delivers_to s p n k ts released taken at e er et d = delivers_at s p n k ts released taken at (er ∙ ap (λ x. (host_of x p).released) (sym e)) (et ∙ ap (λ x. (host_of x p).taken) (sym e)) d

  other_twice : (s : Side) → other_side (other_side s) ≡ s
  other_twice A = refl
  other_twice B = refl

  pub pair_delivers : (s : Side) (p v : PairView G) (n : ℕ) (k : HostView G) (ts : List StoredView) → slice_get p.segments n ≡ Some t → t.emitter ≡ other_side s → p ≡ v → DeliversTo tells (is_old (host_of t.emitter p) t) s m t o (host_of s p) p.segments k ts → Delivers tells (slice_get v.segments n) m v o (exchanged s p k ts)
  pair_delivers s p v n k ts at e f d =
      let flipped : s ≡ other_side t.emitter = sym (other_twice s) ∙ ap other_side (sym e) in
      let at_s : OneSideAndSegments s p (exchanged s p k ts) (DeliversTo tells (is_old (host_of t.emitter p) t) s m t o) = record { host = k; segments = ts; does = d; same = refl } in
      let at_e : Delivers tells (Some t) m p o (exchanged s p k ts) = subst (λ x. OneSideAndSegments x p (exchanged s p k ts) (DeliversTo tells (is_old (host_of t.emitter p) t) x m t o)) flipped at_s in
      subst (λ w. Delivers tells (slice_get w.segments n) m w o (exchanged s p k ts)) f (subst (λ x. Delivers tells x m p o (exchanged s p k ts)) (sym at) at_e)

pub pair_delivers_if : {G : Type 0} (tells : G → ℕ → Type 0) (m : Moment) (t : StoredView) (s : Side) (p v : PairView G) (n : ℕ) (k : HostView G) (ts : List StoredView) (released taken : ℕ) (r : Result Outcome PairError) → slice_get p.segments n ≡ Some t → t.emitter ≡ other_side s → p ≡ v → released ≡ (host_of (other_side s) p).released → taken ≡ (host_of (other_side s) p).taken → IfOk r (λ o. DeliversAt tells (slice_get p.segments n) released taken s m o (host_of s p) p.segments k ts) → IfOk r (λ o. Delivers tells (slice_get v.segments n) m v o (exchanged s p k ts))
pair_delivers_if tells m t s p v n k ts released taken (Ok o) at e f er et d = pair_delivers tells m o t s p v n k ts at e f (delivers_to tells m o t s p n k ts released taken at e er et d)
pair_delivers_if tells m t s p v n k ts released taken (Err x) at e f er et d = tt

-- a delivery that found no memory takes some, over the counts that the code read
pub delivery_takes_if : {G : Type 0} (t : StoredView) (s : Side) (p v : PairView G) (n : ℕ) (released taken : ℕ) (r : Result Outcome PairError) → slice_get p.segments n ≡ Some t → t.emitter ≡ other_side s → p ≡ v → released ≡ (host_of (other_side s) p).released → taken ≡ (host_of (other_side s) p).taken → OnErr r (TakesRoomAt (slice_get p.segments n) released taken (host_of s p)) → OnErr r (DeliveryTakesMemory (slice_get v.segments n) v)
delivery_takes_if t s p v n released taken (Ok o) at e f er et d = tt
delivery_takes_if t s p v n released taken (Err x) at e f er et d =
    let one : TakesRoom (is_too_old t.released_at released t.taken_at taken) (host_of s p) t = subst (λ x. TakesRoomAt x released taken (host_of s p)) at d in
    let two : TakesRoom (is_too_old t.released_at (host_of (other_side s) p).released t.taken_at taken) (host_of s p) t = subst (λ k. TakesRoom (is_too_old t.released_at k t.taken_at taken) (host_of s p) t) er one in
    let three : TakesRoom (is_old (host_of (other_side s) p) t) (host_of s p) t = subst (λ k. TakesRoom (is_too_old t.released_at (host_of (other_side s) p).released t.taken_at k) (host_of s p) t) et two in
    let four : TakesRoom (is_old (host_of t.emitter p) t) (host_of s p) t = subst (λ x. TakesRoom (is_old (host_of x p) t) (host_of s p) t) (sym e) three in
    let five : DeliveryTakesMemory (Some t) p = subst (λ x. TakesRoom (is_old (host_of t.emitter p) t) (host_of x p) t) (sym (twice s) ∙ ap other_side (sym e)) four in
    subst (λ w. DeliveryTakesMemory (slice_get w.segments n) w) f (subst (λ x. DeliveryTakesMemory x p) (sym at) five)
  where
    twice : (s : Side) → other_side (other_side s) ≡ s
    twice A = refl
    twice B = refl

-- what changes nothing leaves the pair as it was
pub unchanged_if : {G : Type 0} (s : Side) (p v : PairView G) (k : HostView G) (ts : List StoredView) (r : Result Outcome PairError) → p ≡ v → OnErr r (IsUnchanged (host_of s p) p.segments k ts) → OnErr r (exchanged s p k ts ≡ v)
unchanged_if s p v k ts (Ok o) f d = tt
unchanged_if s p v k ts (Err x) f d = ap (λ h. exchanged s p h ts) d.0 ∙ ap (exchanged s p (host_of s p)) d.1 ∙ same_exchange s p ∙ f

-- what is read at an index is in the list
pub contains_at : {X : Type 0} (xs : List X) (n : ℕ) (x : X) → slice_get xs n ≡ Some x → Contains xs x
contains_at xs n x e = (n, slice_get_within xs n x e, get_or_from_slice_get xs n x x e)

-- ---- the counts

-- no count passes the length of a stream
pub record Bounded {G : Type 0} (p : PairView G) : Type 0 where
  pub a_released : p.a.released ≤ length p.a.accepted
  pub a_taken : p.a.taken ≤ length p.b.accepted
  pub b_released : p.b.released ≤ length p.b.accepted
  pub b_taken : p.b.taken ≤ length p.a.accepted

pub bounded : {G : Type 0} (p : PairView G) → IsPair p → Bounded p
bounded p i =
    let d = both_delivered (network_of p) i.network in
    record {
      a_released = omega (arith, d.outgoing.released, d.outgoing.taken);
      a_taken = d.incoming.taken;
      b_released = omega (arith, d.incoming.released, d.incoming.taken);
      b_taken = d.outgoing.taken;
    }
