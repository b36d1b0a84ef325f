-- What each event keeps.
use Rattle.std.proofs.Common.{◌≡◌, ℕ, true, false, refl, sym, subst, Option, Some, None}
use Rattle.std.specs.Prelude.{slice_get}
use Rattle.pair_core.specs.NetworkInvariant.{IsInvariant}
use Rattle.pair_core.specs.PairInvariant.{IsPair, IsSized, IsSocket}
use Rattle.pair_core.specs.PairNetwork.{network_of}
use Rattle.pair_core.specs.PairSteps.{Delivers, EventStep, exchanged}
use Rattle.pair_core.specs.PairViews.{PairView, StoredView, host_of}
use Rattle.pair_core.specs.Sides.{other_side}
use Rattle.pair_core.specs.declared.event.Event.{Event}
use Rattle.pair_core.specs.declared.event.Event.TheVariants as event
use Rattle.pair_core.specs.declared.moment.Moment.{Moment}
use Rattle.pair_core.specs.declared.outcome.Outcome.{Outcome}
use Rattle.pair_core.specs.declared.side.Side.{Side}
use Rattle.pair_core.specs.declared.side.Side.TheVariants.{A, B}
use Rattle.pair_core.proofs.NetworkReaches.{reach_keeps}
use Rattle.pair_core.proofs.PairHosts.{host_at}
use Rattle.pair_core.proofs.PairReaches.{event_reaches}
use Rattle.sack_laws.specs.Told.{IsTold}
use Rattle.sack_laws.proofs.Deliveries.{delivers, side_after}
use Rattle.sack_laws.proofs.Events.{aborts, closes, connects, dispatches, listens, receives, sends, sets}

same_pair : {G : Type 0} (q r : PairView G) → q ≡ r → IsTold r → IsTold q
same_pair q r is h = subst IsTold (sym is) h

socket_at : {G : Type 0} (s : Side) (p : PairView G) (e : Event) → IsSized e p → IsSocket (host_of s p).control_block
socket_at A p e z = z.a
socket_at B p e z = z.b

emitter_twice : (s : Side) → s ≡ other_side (other_side s)
emitter_twice A = refl
emitter_twice B = refl

delivery_keeps : {G : Type 0} (tells : G → ℕ → Type 0) (j : ℕ) (t : Option StoredView) (m : Moment) (p q : PairView G) (o : Outcome) → IsPair p → IsSized (event.Deliver j m) p → slice_get p.segments j ≡ t → IsInvariant (network_of q) → Delivers tells t m p o q → IsTold p → IsTold q
delivery_keeps tells j None m p q o i z at after x h = same_pair q p x.1 h
delivery_keeps tells j (Some t) m p q o i z at after x h =
    let s : Side = other_side t.emitter in
    same_pair q (exchanged s p x.host x.segments) x.same
    (delivers tells p i h s (host_at s p i) m t (z.delivered t at) (socket_at s p (event.Deliver j m) z) j at (emitter_twice t.emitter) o x.host x.segments (subst (λ r. IsInvariant (network_of r)) x.same after) x.does)

pub step_keeps : {G : Type 0} (tells : G → ℕ → Type 0) (e : Event) (p : PairView G) (o : Outcome) (q : PairView G) → IsPair p → IsSized e p → EventStep tells e p o q → IsTold p → IsTold q
step_keeps tells (event.Listen s) p o q i z x h = same_pair q _ x.same (listens p s h o x.host x.does)
step_keeps tells (event.Connect s m) p o q i z x h = same_pair q _ x.same (connects p s h m (host_of (other_side s) p).endpoint o x.host x.does)
step_keeps tells (event.SendSlice s bytes) p o q i z x h = same_pair q _ x.same (sends p s h None bytes.items o x.host x.does)
step_keeps tells (event.Send s bytes size) p o q i z x h = same_pair q _ x.same (sends p s h (Some size) bytes.items o x.host x.does)
step_keeps tells (event.RecvSlice s size) p o q i z x h = same_pair q _ x.same (receives p s h false size o x.host x.does)
step_keeps tells (event.Recv s size) p o q i z x h = same_pair q _ x.same (receives p s h true size o x.host x.does)
step_keeps tells (event.Close s) p o q i z x h = same_pair q _ x.same (closes p s h o x.host x.does)
step_keeps tells (event.Abort s) p o q i z x h = same_pair q _ x.same (aborts p s h o x.host x.does)
step_keeps tells (event.Set s y) p o q i z x h = same_pair q _ x.same (sets p s h y o x.host x.does)
step_keeps tells (event.Dispatch s m fail) p o q i z x h =
    let after = reach_keeps (network_of p) (network_of q) (event_reaches tells (event.Dispatch s m fail) p o q i z x) i.network in
    same_pair q _ x.same (dispatches p s h tells m fail o x.host x.segments (host_at s p i) (side_after s p x.host x.segments (subst (λ r. IsInvariant (network_of r)) x.same after)) x.does)
step_keeps tells (event.Deliver j m) p o q i z x h = delivery_keeps tells j (slice_get p.segments j) m p q o i z refl (reach_keeps (network_of p) (network_of q) (event_reaches tells (event.Deliver j m) p o q i z x) i.network) x h
