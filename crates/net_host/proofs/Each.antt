-- A walk that changes one element after the other.
use Rattle.std.proofs.Common.{◌≡◌, ◌∙◌, ℕ, ◌+◌, ◌<◌, ◌≤◌, List, [], ◌∷◌, length, Bool, true, false, nat_eq, suc, zero, Option, Some, None, refl, sym, subst, ap, arith}
use Rattle.std.specs.Prelude.{IfSome, slice_get, slice_set}
use Rattle.std.proofs.lemmas.Option.{slice_get_within}
use Rattle.net_host.specs.Walks.{Both, ChangesAt}

pub elsewhere : {X : Type 0} (xs : List X) (i k : ℕ) (x : X) → nat_eq k i ≡ false → slice_get (slice_set xs i x) k ≡ slice_get xs k
elsewhere [] i k x h = refl
elsewhere (y ∷ ys) zero zero x h = absurd (grind (arith, h))
elsewhere (y ∷ ys) zero (suc k) x h = refl
elsewhere (y ∷ ys) (suc i) zero x h = refl
elsewhere (y ∷ ys) (suc i) (suc k) x h = elsewhere ys i k x (grind (arith, h))

pub there : {X : Type 0} (xs : List X) (i : ℕ) (x : X) → i < length xs → slice_get (slice_set xs i x) i ≡ Some x
there [] i x h = absurd (omega (arith, h))
there (y ∷ ys) zero x h = refl
there (y ∷ ys) (suc i) x h = there ys i x (omega (arith, h))

pub set_len : {X : Type 0} (xs : List X) (i : ℕ) (x : X) → length (slice_set xs i x) ≡ length xs
set_len [] i x = refl
set_len (y ∷ ys) zero x = refl
set_len (y ∷ ys) (suc i) x = ap suc (set_len ys i x)

pub of_some : {X : Type 0} (P Q : X → Type 0) (o : Option X) → ((x : X) → P x → Q x) → IfSome o P → IfSome o Q
of_some P Q None f h = tt
of_some P Q (Some x) f h = f x h

-- an element that stays is changed so
pub changes_nothing : {X : Type 0} (R : X → X → Type 0) (xs : List X) (i : ℕ) → i < length xs → IfSome (slice_get xs i) (λ x. R x x) → ChangesAt R xs i xs
changes_nothing R [] i h r = absurd (omega (arith, h))
changes_nothing R (x ∷ xs) zero h r = record { before = x; after = x; was = refl; changed = r; now = refl }
changes_nothing R (x ∷ xs) (suc i) h r =
    let c = changes_nothing R xs i (omega (arith, h)) r in
    record { before = c.before; after = c.after; was = c.was; changed = c.changed; now = ap (λ ys. x ∷ ys) c.now }

module _ {X : Type 0} (R : X → X → Type 0) (xs ys zs : List X) (i : ℕ) (c : ChangesAt R ys i zs) where
  pub step_len : length ys ≡ length xs → length zs ≡ length xs
  step_len h = ap length c.now ∙ set_len ys i c.after ∙ h

  pub step_done : ((k : ℕ) → k < i → Both R (slice_get xs k) (slice_get ys k)) → ((k : ℕ) → i ≤ k → slice_get ys k ≡ slice_get xs k) → (k : ℕ) → k < i + 1 → Both R (slice_get xs k) (slice_get zs k)
  step_done done left k below = go (nat_eq k i) refl
    where
      go : (b : Bool) → nat_eq k i ≡ b → Both R (slice_get xs k) (slice_get zs k)
      go true e =
          let at : i ≡ k = grind (arith, e) in
          let was : slice_get xs i ≡ Some c.before = sym (left i (omega arith)) ∙ c.was in
          let is : slice_get zs i ≡ Some c.after = ap (λ us. slice_get us i) c.now ∙ there ys i c.after (slice_get_within ys i c.before c.was) in
          subst (λ j. Both R (slice_get xs j) (slice_get zs j)) at (subst (λ o. Both R o (slice_get zs i)) (sym was) (subst (λ o. Both R (Some c.before) o) (sym is) c.changed))
      go false e =
          let less : k < i = grind (arith, e, below) in
          let is : slice_get zs k ≡ slice_get ys k = ap (λ us. slice_get us k) c.now ∙ elsewhere ys i k c.after e in
          subst (λ o. Both R (slice_get xs k) o) (sym is) (done k less)

  pub step_left : ((k : ℕ) → i ≤ k → slice_get ys k ≡ slice_get xs k) → (k : ℕ) → i + 1 ≤ k → slice_get zs k ≡ slice_get xs k
  step_left left k from =
      let e : nat_eq k i ≡ false = grind (arith, from) in
      ap (λ us. slice_get us k) c.now ∙ elsewhere ys i k c.after e ∙ left k (omega (arith, from))
