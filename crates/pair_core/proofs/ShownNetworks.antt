-- The network that a pair shows, from either side, and the segments that each side emitted.
use Rattle.std.proofs.Common.{◌≡◌, ℕ, zero, suc, ◌-◌, ◌<◌, ◌^◌, Bool, true, false, refl, sym, ap, subst, ◌∙◌, arith, List, [], ◌∷◌, ◌++◌, length, Option, Some, None}
use Rattle.std.specs.Prelude.{nat_le, ◌||◌, slice_index_or}
use Rattle.std.specs.List.{Contains}
use Rattle.std.proofs.lemmas.Bool.Decides.{nat_tests}
use Rattle.std.proofs.lemmas.List.{append-nil}
use Rattle.pair_core.specs.Network.{Endpoint, Network, MayArrive, emitted}
use Rattle.pair_core.specs.NetworkInvariant.{IsInvariant}
use Rattle.pair_core.specs.PairNetwork.{endpoint_of, shown_segment, kept_if, sent_by, network_at, network_of}
use Rattle.pair_core.specs.PairSteps.{exchanged, is_old}
use Rattle.pair_core.specs.PairViews.{HostView, StoredView, PairView, host_of, with_host}
use Rattle.pair_core.specs.Sides.{other_side}
use Rattle.pair_core.specs.StreamViews.{StreamSegment}
use Rattle.pair_core.specs.declared.side.Side.{Side}
use Rattle.pair_core.specs.declared.side.Side.TheVariants.{A, B}
use Rattle.pair_core.specs.NetworkRuns.{Reaches}
use Rattle.pair_core.proofs.NetworkReaches.{reach_swapped, stays_there}
use Rattle.pair_core.proofs.NetworkSteps.{swapped_keeps}

-- ---- either side

-- the pair as the side s sees it, with its host as k and these segments
abbrev pub side_network : {G : Type 0} → Side → PairView G → HostView G → List StoredView → Network
side_network s p k ks = network_at s k (host_of (other_side s) p) ks p.limit

pub from_side : {G : Type 0} (s : Side) (p : PairView G) → IsInvariant (network_of p) → IsInvariant (side_network s p (host_of s p) p.segments)
from_side A p i = i
from_side B p i = swapped_keeps (network_of p) i

pub exchanged_reached : {G : Type 0} (s : Side) (p : PairView G) (k : HostView G) (ks : List StoredView) → Reaches (side_network s p (host_of s p) p.segments) (side_network s p k ks) → Reaches (network_of p) (network_of (exchanged s p k ks))
exchanged_reached A p k ks r = r
exchanged_reached B p k ks r = reach_swapped (side_network B p p.b p.segments) (side_network B p k ks) r

pub with_reached : {G : Type 0} (s : Side) (p : PairView G) (k : HostView G) → Reaches (side_network s p (host_of s p) p.segments) (side_network s p k p.segments) → Reaches (network_of p) (network_of (with_host s p k))
with_reached A p k r = r
with_reached B p k r = reach_swapped (side_network B p p.b p.segments) (side_network B p k p.segments) r

-- nothing happened
pub stays_reached : {G : Type 0} (s : Side) (p : PairView G) (k : HostView G) → k ≡ host_of s p → Reaches (network_of p) (network_of (with_host s p k))
stays_reached s p k e = with_reached s p k (stays_there _ _ (ap (λ h. side_network s p h p.segments) (sym e)))

pub unchanged_reached : {G : Type 0} (s : Side) (p : PairView G) (k : HostView G) (ks : List StoredView) → k ≡ host_of s p → ks ≡ p.segments → Reaches (network_of p) (network_of (exchanged s p k ks))
unchanged_reached s p k ks e f = exchanged_reached s p k ks (stays_there _ _ (ap (λ h. side_network s p h p.segments) (sym e) ∙ ap (side_network s p k) (sym f)))

-- ---- what each side emitted

kept_append : (s t : Side) (g : StreamSegment) (gs hs : List StreamSegment) → kept_if s t g (gs ++ hs) ≡ kept_if s t g gs ++ hs
kept_append A A g gs hs = refl
kept_append A B g gs hs = refl
kept_append B A g gs hs = refl
kept_append B B g gs hs = refl

sent_append : (s : Side) (ks ms : List StoredView) → sent_by s (ks ++ ms) ≡ sent_by s ks ++ sent_by s ms
sent_append s [] ms = refl
sent_append s (k ∷ ks) ms = ap (kept_if s k.emitter (shown_segment k)) (sent_append s ks ms) ∙ kept_append s k.emitter (shown_segment k) (sent_by s ks) (sent_by s ms)

sent_own : (s : Side) (k : StoredView) → k.emitter ≡ s → sent_by s (k ∷ []) ≡ shown_segment k ∷ []
sent_own s k e = go s k.emitter e
  where
    go : (s t : Side) → t ≡ s → kept_if s t (shown_segment k) [] ≡ shown_segment k ∷ []
    go A A e = refl
    go B B e = refl
    go A B e = cc
    go B A e = cc

sent_others : (s : Side) (k : StoredView) → k.emitter ≡ s → sent_by (other_side s) (k ∷ []) ≡ []
sent_others s k e = go s k.emitter e
  where
    go : (s t : Side) → t ≡ s → kept_if (other_side s) t (shown_segment k) [] ≡ []
    go A A e = refl
    go B B e = refl
    go A B e = cc
    go B A e = cc

-- two endpoints, and the segments that each emitted
abbrev pub between : Side → Endpoint → Endpoint → List StoredView → Option ℕ → Network
between s x y ks limit = record { local = x; remote = y; local_segments = sent_by s ks; remote_segments = sent_by (other_side s) ks; limit = limit }

-- a segment of the side s is stored
pub stored_is : (s : Side) (x y : Endpoint) (ks : List StoredView) (k : StoredView) (limit : Option ℕ) → k.emitter ≡ s → emitted (between s x y ks limit) (shown_segment k) ≡ between s x y (ks ++ k ∷ []) limit
stored_is s x y ks k limit e = λ j. record { local = x; remote = y; local_segments = own j; remote_segments = others j; limit = limit }
  where
    own : sent_by s ks ++ shown_segment k ∷ [] ≡ sent_by s (ks ++ k ∷ [])
    own = ap (λ gs. sent_by s ks ++ gs) (sym (sent_own s k e)) ∙ sym (sent_append s ks (k ∷ []))

    others : sent_by (other_side s) ks ≡ sent_by (other_side s) (ks ++ k ∷ [])
    others = sym (append-nil (sent_by (other_side s) ks)) ∙ ap (λ gs. sent_by (other_side s) ks ++ gs) (sym (sent_others s k e)) ∙ sym (sent_append (other_side s) ks (k ∷ []))

further : (g h : StreamSegment) (gs : List StreamSegment) → Contains gs h → Contains (g ∷ gs) h
further g h gs c = (suc c.0, omega (arith, c.1), c.2)

has_first : (s t : Side) (g : StreamSegment) (gs : List StreamSegment) → t ≡ s → Contains (kept_if s t g gs) g
has_first A A g gs e = (0, omega arith, refl)
has_first B B g gs e = (0, omega arith, refl)
has_first A B g gs e = cc
has_first B A g gs e = cc

has_later : (s t : Side) (g h : StreamSegment) (gs : List StreamSegment) → Contains gs h → Contains (kept_if s t g gs) h
has_later A A g h gs c = further g h gs c
has_later A B g h gs c = c
has_later B A g h gs c = c
has_later B B g h gs c = further g h gs c

-- a stored segment of the side s was emitted by it
pub sent_has : (s : Side) (ks : List StoredView) (k : StoredView) → Contains ks k → k.emitter ≡ s → Contains (sent_by s ks) (shown_segment k)
sent_has s ks k c e = at ks c.0 c.1 c.2
  where
    at : (ms : List StoredView) (n : ℕ) → n < length ms → slice_index_or ms n k ≡ k → Contains (sent_by s ms) (shown_segment k)
    at [] n l is = absurd (omega arith)
    at (m ∷ ms) zero l is = subst (λ (z : StoredView). Contains (kept_if s m.emitter (shown_segment m) (sent_by s ms)) (shown_segment z)) is (has_first s m.emitter (shown_segment m) (sent_by s ms) (ap (λ (z : StoredView). z.emitter) is ∙ e))
    at (m ∷ ms) (suc n) l is = has_later s m.emitter (shown_segment m) (shown_segment k) (sent_by s ms) (at ms n (omega arith) is)

-- ---- age

neither : (a b : Bool) → (a || b) ≡ false → (a ≡ false) × (b ≡ false)
neither true b e = cc
neither false b e = (refl, e)

-- a segment that is not too old may arrive
pub may_arrive : {G : Type 0} (limit : Option ℕ) (h : HostView G) (t : StoredView) → is_old h t ≡ false → MayArrive limit (shown_segment t) (endpoint_of h)
may_arrive None h t e =
    let two = neither (nat_le (2 ^ 29) (h.released - t.released_at)) (nat_le (2 ^ 29) (h.taken - t.taken_at)) e in
    record { released = grind (arith, nat_tests, two.0); taken = grind (arith, nat_tests, two.1) }
may_arrive (Some limit) h t e = tt
