-- A walk for the earliest moment that is one place longer.
use Rattle.std.proofs.Common.{◌≡◌, ℕ, ◌+◌, ◌<◌, ◌≤◌, List, length, get_or, Bool, true, false, Option, Some, None, refl, sym, subst, arith}
use Rattle.std.specs.Prelude.{IfSome, slice_get, nat_lt, int_lt, ◌≤ℤ◌, ◌<ℤ◌}
use Rattle.std.proofs.lemmas.Int.{ints}
use Rattle.std.proofs.lemmas.Option.{slice_get_read, slice_get_past}
use Rattle.net_base.specs.declared.time.Instant.{Instant}
use Rattle.net_host.specs.Resting.{FindsEarliest, OnlyOf, earlier_if, earlier_of}

-- the same among the elements before a place
pub record EarliestIn {X : Type 0} (R : Instant → X → Type 0) (xs : List X) (end i : ℕ) (t : Instant) : Type 0 where
  pub within : i < end
  pub holds : IfSome (slice_get xs i) (R t)
  pub others : (k : ℕ) (u : Instant) → k < end → IfSome (slice_get xs k) (λ x. R u x → t.micros ≤ℤ u.micros)
  pub before : (k : ℕ) (u : Instant) → k < i → IfSome (slice_get xs k) (λ x. R u x → t.micros <ℤ u.micros)

abbrev pub SoFar : {X : Type 0} → (Instant → X → Type 0) → List X → ℕ → Option (ℕ × Instant) → Type 0
SoFar R xs end None = (k : ℕ) (u : Instant) → k < end → IfSome (slice_get xs k) (λ x. R u x → ⊥)
SoFar R xs end (Some p) = EarliestIn R xs end p.0 p.1

module _ {X : Type 0} (R : Instant → X → Type 0) (xs : List X) (n : ℕ) (x : X) (in_list : n < length xs) (is : x ≡ get_or xs n x) where
  here : slice_get xs n ≡ Some x
  here = slice_get_read xs (length xs) n x refl in_list is

  at : (Q : X → Type 0) → Q x → IfSome (slice_get xs n) Q
  at Q h = subst (λ o. IfSome o Q) (sym here) h

  -- what holds of each element before n, and of the one at n
  upto : (Q : X → Type 0) → ((k : ℕ) → k < n → IfSome (slice_get xs k) Q) → Q x → (k : ℕ) → k < n + 1 → IfSome (slice_get xs k) Q
  upto Q before h k below = go (nat_lt k n) refl
    where
      go : (b : Bool) → nat_lt k n ≡ b → IfSome (slice_get xs k) Q
      go true e = before k (grind (arith, e))
      go false e =
          let least : n ≤ k = grind (arith, e) in
          let same : n ≡ k = omega (arith, below, least) in
          subst (λ j. IfSome (slice_get xs j) Q) same (at Q h)

  weaker : (P Q : X → Type 0) (o : Option X) → ((y : X) → P y → Q y) → IfSome o P → IfSome o Q
  weaker P Q None f h = tt
  weaker P Q (Some y) f h = f y h

  first : (t : Instant) → OnlyOf (λ u. R u x) (Some t) → SoFar R xs n None → SoFar R xs (n + 1) (Some (n, t))
  first t h none = record {
    within = omega arith;
    holds = at (R t) h.0;
    others = λ k u. upto (λ y. R u y → t.micros ≤ℤ u.micros) (λ j below. weaker (λ y. R u y → ⊥) (λ y. R u y → t.micros ≤ℤ u.micros) (slice_get xs j) (λ y no r. absurd (no r)) (none j u below)) (λ r. subst (λ (v : Instant). t.micros ≤ℤ v.micros) (sym (h.1 u r)) (grind (arith, ints))) k;
    before = λ k u below. weaker (λ y. R u y → ⊥) (λ y. R u y → t.micros <ℤ u.micros) (slice_get xs k) (λ y no r. absurd (no r)) (none k u below);
  }

  sooner : (p : ℕ × Instant) (t : Instant) → OnlyOf (λ u. R u x) (Some t) → SoFar R xs n (Some p) → (b : Bool) → int_lt t.micros p.1.micros ≡ b → SoFar R xs (n + 1) (earlier_if b (Some p) (n, t))
  sooner p t h best true e = record {
    within = omega arith;
    holds = at (R t) h.0;
    others = λ k u. upto (λ y. R u y → t.micros ≤ℤ u.micros) (λ j below. weaker (λ y. R u y → p.1.micros ≤ℤ u.micros) (λ y. R u y → t.micros ≤ℤ u.micros) (slice_get xs j) (λ y least r. let q : p.1.micros ≤ℤ u.micros = least r in grind (arith, ints)) (best.others j u below)) (λ r. subst (λ (v : Instant). t.micros ≤ℤ v.micros) (sym (h.1 u r)) (grind (arith, ints))) k;
    before = λ k u below. weaker (λ y. R u y → p.1.micros ≤ℤ u.micros) (λ y. R u y → t.micros <ℤ u.micros) (slice_get xs k) (λ y least r. let q : p.1.micros ≤ℤ u.micros = least r in grind (arith, ints)) (best.others k u below);
  }
  sooner p t h best false e = record {
    within = omega (arith, best.within);
    holds = best.holds;
    others = λ k u. upto (λ y. R u y → p.1.micros ≤ℤ u.micros) (λ j below. best.others j u below) (λ r. subst (λ (v : Instant). p.1.micros ≤ℤ v.micros) (sym (h.1 u r)) (grind (arith, ints))) k;
    before = best.before;
  }

  pub step : (found : Option (ℕ × Instant)) (o : Option Instant) → OnlyOf (λ u. R u x) o → SoFar R xs n found → SoFar R xs (n + 1) (earlier_of found n o)
  step None None h best = λ k u. upto (λ y. R u y → ⊥) (λ j below. best j u below) (h u) k
  step None (Some t) h best = first t h best
  step (Some p) None h best = record {
    within = omega (arith, best.within);
    holds = best.holds;
    others = λ k u. upto (λ y. R u y → p.1.micros ≤ℤ u.micros) (λ j below. best.others j u below) (λ r. absurd (h u r)) k;
    before = best.before;
  }
  step (Some p) (Some t) h best = sooner p t h best (int_lt t.micros p.1.micros) refl

past : {X : Type 0} (Q : X → Type 0) (xs : List X) (k : ℕ) → ((k : ℕ) → k < length xs → IfSome (slice_get xs k) Q) → IfSome (slice_get xs k) Q
past Q xs k h = go (nat_lt k (length xs)) refl
  where
    go : (b : Bool) → nat_lt k (length xs) ≡ b → IfSome (slice_get xs k) Q
    go true e = h k (grind (arith, e))
    go false e = subst (λ o. IfSome o Q) (sym (slice_get_past xs k (grind (arith, e)))) tt

pub whole : {X : Type 0} (R : Instant → X → Type 0) (xs : List X) (found : Option (ℕ × Instant)) → SoFar R xs (length xs) found → FindsEarliest R xs found
whole R xs None h = λ k u. past (λ x. R u x → ⊥) xs k (λ j below. h j u below)
whole R xs (Some p) h = record {
  within = h.within;
  holds = h.holds;
  others = λ k u. past (λ x. R u x → p.1.micros ≤ℤ u.micros) xs k (λ j below. h.others j u below);
  before = h.before;
}
