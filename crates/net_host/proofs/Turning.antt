-- Walks in turn, and walks that are one place longer.
use Rattle.std.proofs.Common.{◌≡◌, ℕ, ◌+◌, ◌<◌, ◌≤◌, List, length, get_or, min, Bool, true, false, Option, Some, None, refl, sym, subst, arith}
use Rattle.std.specs.Prelude.{IfSome, slice_get, nat_lt, nat_le, ◌||◌, ◌&&◌, if◌then◌else◌}
use Rattle.std.proofs.lemmas.Option.{slice_get_read, slice_get_past}
use Rattle.net_host.specs.Walks.{FindsIn, FindsNext, IsFirstIn, IsNext}

pub one_more : {X : Type 0} (P : X → Type 0) (xs : List X) (start i : ℕ) (x : X) → ((k : ℕ) → start ≤ k → k < i → IfSome (slice_get xs k) (λ y. P y → ⊥)) → i < length xs → x ≡ get_or xs i x → (P x → ⊥) → (k : ℕ) → start ≤ k → k < i + 1 → IfSome (slice_get xs k) (λ y. P y → ⊥)
one_more P xs start i x before within is not k from below = go (nat_lt k i) refl
  where
    go : (b : Bool) → nat_lt k i ≡ b → IfSome (slice_get xs k) (λ y. P y → ⊥)
    go true e = before k from (grind (arith, e))
    go false e =
        let least : i ≤ k = grind (arith, e) in
        let same : i ≡ k = omega (arith, below, least) in
        subst (λ j. IfSome (slice_get xs j) (λ y. P y → ⊥)) same (subst (λ o. IfSome o (λ y. P y → ⊥)) (sym (slice_get_read xs (length xs) i x refl within is)) not)

past : {X : Type 0} (P : X → Type 0) (xs : List X) (k : ℕ) → length xs ≤ k → IfSome (slice_get xs k) (λ y. P y → ⊥)
past P xs k h = subst (λ o. IfSome o (λ y. P y → ⊥)) (sym (slice_get_past xs k h)) tt

pub first_found : {X : Type 0} (P : X → Type 0) (xs : List X) (turn start i : ℕ) → start ≡ min turn (length xs) → IsFirstIn P xs start i → IsNext P xs turn i
first_found P xs turn start i is f = record {
  within = f.within;
  holds = f.holds;
  passed = λ k. go k (nat_le turn i) refl (nat_le turn k) refl (nat_lt k i) refl;
}
  where
    go : (k : ℕ) (a : Bool) → nat_le turn i ≡ a → (b : Bool) → nat_le turn k ≡ b → (c : Bool) → nat_lt k i ≡ c → (if a then (b && c) else (b || c)) ≡ true → IfSome (slice_get xs k) (λ y. P y → ⊥)
    go k false d b e c g h = absurd (grind (arith, d, is, f.behind, f.within))
    go k true d true e true g h = let q : turn ≤ k = grind (arith, e) in f.before k (omega (arith, q, is)) (grind (arith, g))
    go k true d true e false g h = absurd cc
    go k true d false e c g h = absurd cc

pub around : {X : Type 0} (P : X → Type 0) (xs : List X) (turn start : ℕ) (r : Option ℕ) → start ≡ min turn (length xs) → FindsIn P xs start (length xs) None → FindsIn P xs 0 start r → FindsNext P xs turn r
around P xs turn start None is behind before = λ k. go k (nat_lt k start) refl (nat_lt k (length xs)) refl
  where
    go : (k : ℕ) (b : Bool) → nat_lt k start ≡ b → (c : Bool) → nat_lt k (length xs) ≡ c → IfSome (slice_get xs k) (λ y. P y → ⊥)
    go k true e c f = before k (omega arith) (grind (arith, e))
    go k false e true f = behind k (grind (arith, e)) (grind (arith, f))
    go k false e false f = past P xs k (grind (arith, f))
around P xs turn start (Some i) is behind before = record {
  within = before.0.within;
  holds = before.0.holds;
  passed = λ k. go k (nat_le turn i) refl (nat_lt k i) refl (nat_lt k (length xs)) refl;
}
  where
    go : (k : ℕ) (a : Bool) → nat_le turn i ≡ a → (b : Bool) → nat_lt k i ≡ b → (c : Bool) → nat_lt k (length xs) ≡ c → (if a then (nat_le turn k && b) else (nat_le turn k || b)) ≡ true → IfSome (slice_get xs k) (λ y. P y → ⊥)
    go k a d true e c f h = before.0.before k (omega arith) (grind (arith, e))
    go k true d false e c f h = absurd (grind (arith, d, is, before.1))
    go k false d false e false f h = past P xs k (grind (arith, f))
    go k false d false e true f h = behind k (from (nat_le turn k) refl h) (grind (arith, f))
      where
        from : (t : Bool) → nat_le turn k ≡ t → (t || false) ≡ true → start ≤ k
        from true g h = let q : turn ≤ k = grind (arith, g) in omega (arith, q, is)
        from false g h = cc
