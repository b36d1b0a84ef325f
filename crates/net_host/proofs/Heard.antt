-- Datagrams and copies of packets: which place is touched.
use Rattle.std.proofs.Common.{◌≡◌, ◌∙◌, ℕ, ℤ, List, length, Bool, true, false, nat_eq, Option, Some, None, refl, sym, subst, ap, arith}
use Rattle.std.specs.Prelude.{IfSome, IfNone, slice_get, slice_set}
use Rattle.std.proofs.lemmas.Option.{slice_get_within}
use Rattle.host_bounds.specs.Bounding.{at_once, bound_at}
use Rattle.ip_wire.specs.declared.repr.IpRepr.{IpRepr}
use Rattle.control_wire.specs.declared.udp.UdpRepr.{UdpRepr}
use Rattle.net_host.specs.Datagrams.{HeardBy, Hears}
use Rattle.net_host.specs.Touching.{Touches, touched_if}
use Rattle.net_host.specs.Walks.{ChangesAt}
use Rattle.net_host.specs.declared.slot.Slot.{Slot}
use Rattle.net_host.proofs.Each.{elsewhere, there}
use Rattle.net_host.proofs.Sleepers.{changed_len}
use Rattle.net_host.proofs.Touching.{touches_at, touches_none}

pub heard_len : {G : Type 0} (found : Option ℕ) (ip : IpRepr) (u : UdpRepr) (payload : List ℕ) (room : Bool) (ss ts : List (Slot G)) → HeardBy found ss ip u payload room ts → length ts ≡ length ss
heard_len None ip u payload room ss ts c = ap length c
heard_len (Some i) ip u payload room ss ts c = changed_len (λ b a. Hears ip u payload room b a) ss ts i c

pub heard_touches : {G : Type 0} (found : Option ℕ) (ip : IpRepr) (u : UdpRepr) (payload : List ℕ) (room : Bool) (bs : List ℤ) (ss : List (Slot G)) (cs : List ℤ) (ts : List (Slot G)) → IfSome found (λ i. cs ≡ slice_set bs i at_once) → IfNone found (cs ≡ bs) → HeardBy found ss ip u payload room ts → Touches bs ss cs ts
heard_touches None ip u payload room bs ss cs ts some none c = touches_none bs ss cs ts none c
heard_touches (Some i) ip u payload room bs ss cs ts some none c = touches_at (λ b a. Hears ip u payload room b a) bs ss cs ts i some c

-- a place is touched where its socket took something, and is as it was where it took nothing
pub touches_where : {G : Type 0} (took : Bool) (bs : List ℤ) (ss : List (Slot G)) (cs : List ℤ) (ts : List (Slot G)) (i : ℕ) → cs ≡ touched_if took i bs → ChangesAt (λ b a. took ≡ false → a ≡ b) ss i ts → Touches bs ss cs ts
touches_where true bs ss cs ts i b c = touches_at (λ x y. true ≡ false → y ≡ x) bs ss cs ts i b c
touches_where false bs ss cs ts i b c = λ k later. record { bound = ap (λ ds. bound_at ds k) b; same = go k (nat_eq k i) refl }
  where
    go : (k : ℕ) (d : Bool) → nat_eq k i ≡ d → slice_get ts k ≡ slice_get ss k
    go k true e =
        let at : i ≡ k = grind (arith, e) in
        subst (λ j. slice_get ts j ≡ slice_get ss j) at (ap (λ us. slice_get us i) c.now ∙ there ss i c.after (slice_get_within ss i c.before c.was) ∙ ap (λ x. Some x) (c.changed refl) ∙ sym c.was)
    go k false e = ap (λ us. slice_get us k) c.now ∙ elsewhere ss i k c.after e
