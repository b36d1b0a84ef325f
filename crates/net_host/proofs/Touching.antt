-- Steps that leave the sockets that are not touched as they were.
use Rattle.std.proofs.Common.{◌≡◌, ◌∙◌, ℕ, ℤ, ◌<ℤ◌, List, Bool, true, false, nat_eq, refl, sym, subst, ap, Some, arith}
use Rattle.std.specs.Prelude.{slice_get, slice_set, ◌||◌}
use Rattle.std.proofs.lemmas.Option.{slice_get_within}
use Rattle.std.proofs.lemmas.List.{get_or-set_other}
use Rattle.host_bounds.specs.Bounding.{at_once, bound_at}
use Rattle.net_host.specs.Sleeping.{AreAsleep, is_marked, sleeps_at}
use Rattle.net_host.specs.Touching.{IsUntouched, Touches, touched_if}
use Rattle.net_host.specs.declared.terms.Terms.{Terms}
use Rattle.net_host.specs.Walks.{ChangesAt}
use Rattle.net_host.specs.declared.slot.Slot.{Slot}
use Rattle.net_host.proofs.Each.{elsewhere, there}
use Rattle.net_host.proofs.Sleepers.{marked_there}

module _ {G : Type 0} where
  -- nothing changes
  pub touches_none : (bs : List ℤ) (ss : List (Slot G)) (cs : List ℤ) (ts : List (Slot G)) → cs ≡ bs → ts ≡ ss → Touches bs ss cs ts
  touches_none bs ss cs ts b s k later = record { bound = ap (λ ds. bound_at ds k) b; same = ap (λ us. slice_get us k) s }

  -- one step and then another
  pub touches_then : (bs : List ℤ) (ss : List (Slot G)) (cs : List ℤ) (ts : List (Slot G)) (ds : List ℤ) (us : List (Slot G)) → Touches bs ss cs ts → Touches cs ts ds us → Touches bs ss ds us
  touches_then bs ss cs ts ds us one two k later =
      let then : IsUntouched cs ts ds us k = two k later in
      let first : IsUntouched bs ss cs ts k = one k (subst (λ m. at_once <ℤ m) then.bound later) in
      record {
        bound = then.bound ∙ first.bound;
        same = then.same ∙ first.same;
      }

  -- a place is touched, and changes
  pub touches_at : (R : Slot G → Slot G → Type 0) (bs : List ℤ) (ss : List (Slot G)) (cs : List ℤ) (ts : List (Slot G)) (i : ℕ) → cs ≡ slice_set bs i at_once → ChangesAt R ss i ts → Touches bs ss cs ts
  touches_at R bs ss cs ts i b c k later = go (nat_eq k i) refl
    where
      go : (d : Bool) → nat_eq k i ≡ d → IsUntouched bs ss cs ts k
      go true e =
          let at : i ≡ k = grind (arith, e) in
          let marked : bound_at cs k ≡ at_once = subst (λ j. bound_at cs j ≡ at_once) at (ap (λ ds. bound_at ds i) b ∙ marked_there bs i) in
          absurd (grind (arith, later, marked))
      go false e =
          let apart : (k ≡ i → ⊥) = λ h. absurd (grind (arith, h, e)) in
          record {
            bound = ap (λ ds. bound_at ds k) b ∙ get_or-set_other bs i k at_once at_once apart;
            same = ap (λ us. slice_get us k) c.now ∙ elsewhere ss i k c.after e;
          }

  -- the same, where the places were lent as they were
  pub touches_lent : (R : Slot G → Slot G → Type 0) (bs : List ℤ) (ss : List (Slot G)) (cs : List ℤ) (us ts : List (Slot G)) (i : ℕ) → cs ≡ slice_set bs i at_once → us ≡ ss → ChangesAt R us i ts → Touches bs ss cs ts
  touches_lent R bs ss cs us ts i b s c = subst (λ vs. Touches bs vs cs ts) s (touches_at R bs us cs ts i b c)

  -- a place is touched where its socket took something, and is as it was where it took nothing
  pub touches_if : (R : Slot G → Slot G → Type 0) (took : Bool) (bs : List ℤ) (ss : List (Slot G)) (cs : List ℤ) (ts : List (Slot G)) (i : ℕ) → cs ≡ touched_if took i bs → (c : ChangesAt R ss i ts) → (took ≡ false → c.after ≡ c.before) → Touches bs ss cs ts
  touches_if R true bs ss cs ts i b c stays = touches_at R bs ss cs ts i b c
  touches_if R false bs ss cs ts i b c stays = λ k later. record { bound = ap (λ ds. bound_at ds k) b; same = go k (nat_eq k i) refl }
    where
      go : (k : ℕ) (d : Bool) → nat_eq k i ≡ d → slice_get ts k ≡ slice_get ss k
      go k true e =
          let at : i ≡ k = grind (arith, e) in
          subst (λ j. slice_get ts j ≡ slice_get ss j) at (ap (λ us. slice_get us i) c.now ∙ there ss i c.after (slice_get_within ss i c.before c.was) ∙ ap (λ x. Some x) (stays refl) ∙ sym c.was)
      go k false e = ap (λ us. slice_get us k) c.now ∙ elsewhere ss i k c.after e

  -- no place that is not touched need be asked sooner
  pub touches_sleep : (sleeps : Terms → ℤ → Slot G → Bool) (t : Terms) (bs : List ℤ) (ss : List (Slot G)) (cs : List ℤ) (ts : List (Slot G)) → Touches bs ss cs ts → AreAsleep sleeps t bs ss → AreAsleep sleeps t cs ts
  touches_sleep sleeps t bs ss cs ts h asleep k = go (is_marked (bound_at cs k)) refl
    where
      go : (m : Bool) → is_marked (bound_at cs k) ≡ m → (is_marked (bound_at cs k) || sleeps_at sleeps t (bound_at cs k) (slice_get ts k)) ≡ true
      go true e = ap (λ m. m || sleeps_at sleeps t (bound_at cs k) (slice_get ts k)) e
      go false e =
          let later : at_once <ℤ bound_at cs k = grind (arith, e) in
          let u : IsUntouched bs ss cs ts k = h k later in
          subst (λ o. (is_marked (bound_at cs k) || sleeps_at sleeps t (bound_at cs k) o) ≡ true) (sym u.same) (subst (λ b. (is_marked b || sleeps_at sleeps t b (slice_get ss k)) ≡ true) (sym u.bound) (asleep k))
