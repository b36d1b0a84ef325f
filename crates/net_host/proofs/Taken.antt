-- A port that a socket has is not free.
use Rattle.std.proofs.Common.{◌≡◌, ℕ, ◌<◌, ◌+◌, nat_lt, List, [], ◌∷◌, length, zero, suc, Option, Some, None, Bool, true, false, refl, subst, sym, arith}
use Rattle.std.specs.Prelude.{IfSome, is_none, slice_get}
use Rattle.net_host.specs.Walks.{Finds, Nowhere}

found_is_there : {X : Type 0} (P : X → Type 0) (xs : List X) (i : ℕ) → i < length xs → IfSome (slice_get xs i) P → IfSome (slice_get xs i) (λ x. P x → ⊥) → ⊥
found_is_there P [] i within h n = omega (arith, within)
found_is_there P (x ∷ xs) zero within h n = n h
found_is_there P (x ∷ xs) (suc i) within h n = found_is_there P xs i (omega (arith, within)) h n

-- what a walk finds is somewhere
pub taken : {X : Type 0} (P : X → Type 0) (xs : List X) (r : Option ℕ) → is_none r ≡ false → Finds P xs r → Nowhere P xs → ⊥
taken P xs None e f n = cc
taken P xs (Some i) e f n = found_is_there P xs i f.within f.holds (n i)

-- what holds before k, and at k
pub goes_on : (Q : ℕ → Type 0) (k : ℕ) → ((j : ℕ) → j < k → Q j → ⊥) → (Q k → ⊥) → (j : ℕ) → j < k + 1 → Q j → ⊥
goes_on Q k before here j within q = by (nat_lt j k) refl
  where
    by : (b : Bool) → nat_lt j k ≡ b → ⊥
    by true e = before j (grind (arith, e)) q
    by false e =
        let same : j ≡ k = grind (arith, e, within) in
        here (subst Q same q)
