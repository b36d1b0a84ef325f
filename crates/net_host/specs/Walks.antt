-- Walks through a list, from its first element on.
use Rattle.std.specs.Prelude.{ℕ, ◌≡◌, ◌<◌, ◌≤◌, ◌&&◌, ◌||◌, nat_le, nat_lt, Bool, true, if◌then◌else◌, List, length}
use Rattle.std.specs.Prelude.{Option, Some, None, IfSome, slice_get, slice_set}

-- P holds of no element
abbrev pub Nowhere : {X : Type 0} → (X → Type 0) → List X → Type 0
Nowhere P xs = (k : ℕ) → IfSome (slice_get xs k) (λ x. P x → ⊥)

-- P holds of the element at i, and of none before it
pub record IsFirst {X : Type 0} (P : X → Type 0) (xs : List X) (i : ℕ) : Type 0 where
  pub within : i < length xs
  pub holds : IfSome (slice_get xs i) P
  pub before : (k : ℕ) → k < i → IfSome (slice_get xs k) (λ x. P x → ⊥)

-- P holds of the element at i
pub record IsAt {X : Type 0} (P : X → Type 0) (xs : List X) (i : ℕ) : Type 0 where
  pub within : i < length xs
  pub holds : IfSome (slice_get xs i) P

-- where a walk through the list finds P first
abbrev pub Finds : {X : Type 0} → (X → Type 0) → List X → Option ℕ → Type 0
Finds P xs None = Nowhere P xs
Finds P xs (Some i) = IsFirst P xs i

-- among these places, the first whose element P holds of
pub record IsFirstAmong {X : Type 0} (Q : ℕ → Type 0) (P : X → Type 0) (xs : List X) (i : ℕ) : Type 0 where
  pub within : i < length xs
  pub holds : IfSome (slice_get xs i) P
  pub before : (k : ℕ) → k < i → Q k → IfSome (slice_get xs k) (λ x. P x → ⊥)

abbrev pub FindsAmong : {X : Type 0} → (ℕ → Type 0) → (X → Type 0) → List X → Option ℕ → Type 0
FindsAmong Q P xs None = (k : ℕ) → Q k → IfSome (slice_get xs k) (λ x. P x → ⊥)
FindsAmong Q P xs (Some i) = IsFirstAmong Q P xs i

-- the element at i is changed so, and no other
pub record ChangesAt {X : Type 0} (R : X → X → Type 0) (xs : List X) (i : ℕ) (ys : List X) : Type 0 where
  pub before : X
  pub after : X
  pub was : slice_get xs i ≡ Some before
  pub changed : R before after
  pub now : ys ≡ slice_set xs i after

-- R of two elements, or there is none of either
abbrev pub Both : {X : Type 0} → (X → X → Type 0) → Option X → Option X → Type 0
Both R None None = Unit {0}
Both R (Some x) (Some y) = R x y
Both R _ _ = ⊥

-- each element is changed so
abbrev pub ChangesEach : {X : Type 0} → (X → X → Type 0) → List X → List X → Type 0
ChangesEach R xs ys = (k : ℕ) → Both R (slice_get xs k) (slice_get ys k)

-- ---- in turn

-- a walk that begins at one place, and begins anew behind the last, passes k before it comes to i
abbrev pub passes : (start i k : ℕ) → Bool
passes start i k = if nat_le start i then (nat_le start k && nat_lt k i) else (nat_le start k || nat_lt k i)

-- the first element of such a walk that P holds of
pub record IsNext {X : Type 0} (P : X → Type 0) (xs : List X) (start i : ℕ) : Type 0 where
  pub within : i < length xs
  pub holds : IfSome (slice_get xs i) P
  pub passed : (k : ℕ) → passes start i k ≡ true → IfSome (slice_get xs k) (λ x. P x → ⊥)

abbrev pub FindsNext : {X : Type 0} → (X → Type 0) → List X → ℕ → Option ℕ → Type 0
FindsNext P xs start None = Nowhere P xs
FindsNext P xs start (Some i) = IsNext P xs start i

-- among the places from one on, and before another
pub record IsFirstIn {X : Type 0} (P : X → Type 0) (xs : List X) (start i : ℕ) : Type 0 where
  pub within : i < length xs
  pub behind : start ≤ i
  pub holds : IfSome (slice_get xs i) P
  pub before : (k : ℕ) → start ≤ k → k < i → IfSome (slice_get xs k) (λ x. P x → ⊥)

abbrev pub FindsIn : {X : Type 0} → (X → Type 0) → List X → (start end : ℕ) → Option ℕ → Type 0
FindsIn P xs start end None = (k : ℕ) → start ≤ k → k < end → IfSome (slice_get xs k) (λ x. P x → ⊥)
FindsIn P xs start end (Some i) = IsFirstIn P xs start i × (i < end)
