-- Places near one another, and their numbers.
use Rattle.std.proofs.Common.{◌≡◌, ℕ, ◌+◌, ◌-◌, ◌%◌, ◌^◌, ◌<◌, ◌≤◌, Bool, true, false, refl, ap, inl, inr, ⊎_elim, arith}
use Rattle.std.specs.Prelude.{nat_lt, min, max}
use Rattle.std.proofs.lemmas.Bool.{cases_lt, le-ltb, lt-ltb, le-leb, lt-leb}
use Rattle.std.proofs.lemmas.Bool.Decides.{nat_tests}
use Rattle.sock_core.specs.Places.{number_at, number_distance, number_is_before, later_number, sooner_number}

-- a number has 32 bits
pub number_below : (o p : ℕ) → number_at o p < 2 ^ 32
unfolding number_at
number_below o p = omega arith

-- places less than 2 ^ 32 apart with one number are one place
pub same_place : (o p q : ℕ) → p < q + 2 ^ 32 → q < p + 2 ^ 32 → number_at o p ≡ number_at o q → p ≡ q
unfolding number_at
same_place o p q a b e = omega arith

-- n places on
pub number_add : (o p n : ℕ) → (number_at o p + n) % 2 ^ 32 ≡ number_at o (p + n)
unfolding number_at
number_add o p n = omega arith

-- one place back
pub number_back : (o p : ℕ) → 1 ≤ p → (number_at o p + (2 ^ 32 - 1)) % 2 ^ 32 ≡ number_at o (p - 1)
unfolding number_at
number_back o p l = omega arith

-- each number stands at place 1 for some origin
pub origin_of : (n : ℕ) → n < 2 ^ 32 → n ≡ number_at ((n + (2 ^ 32 - 1)) % 2 ^ 32) 1
unfolding number_at
origin_of n l = omega arith

-- origins that agree at one place agree at each
pub same_origin : (a o k : ℕ) → number_at a k ≡ number_at o k → (c : ℕ) → number_at a c ≡ number_at o c
unfolding number_at
same_origin a o k e c = omega arith

-- the distance of numbers is that of the places, from the lower up
pub distance_up : (o p q : ℕ) → q ≤ p → p < q + 2 ^ 32 → number_distance (number_at o p) (number_at o q) ≡ p - q
unfolding number_at number_distance
distance_up o p q l m = omega arith

-- and from the higher round to the lower
pub distance_down : (o p q : ℕ) → p < q → q < p + 2 ^ 32 → number_distance (number_at o p) (number_at o q) ≡ 2 ^ 32 - (q - p)
unfolding number_at number_distance
distance_down o p q l m = omega arith

-- near places stand in the order of their numbers
pub order_agrees : (o p q : ℕ) → p < q + 2 ^ 31 → q < p + 2 ^ 31 → number_is_before (number_at o p) (number_at o q) ≡ nat_lt p q
unfolding number_is_before
order_agrees o p q near near' =
    elim (cases_lt p q) [
      | inl lt ↦ rw (distance_down o p q lt (omega arith), lt-ltb p q lt) (le-leb (2 ^ 31) (2 ^ 32 - (q - p)) (omega arith))
      | inr le ↦ rw (distance_up o p q le (omega arith), le-ltb p q le) (lt-leb (2 ^ 31) (p - q) (omega arith))
    ]

-- the later number is that of the greater place
pub later_place : (o p q : ℕ) → p < q + 2 ^ 31 → q < p + 2 ^ 31 → later_number (number_at o p) (number_at o q) ≡ number_at o (max p q)
later_place o p q a b = ⊎_elim
    (λ l. rw (order_agrees o p q a b, lt-ltb p q l) (ap (number_at o) (omega arith)))
    (λ l. rw (order_agrees o p q a b, le-ltb p q l) (ap (number_at o) (omega arith)))
    (cases_lt p q)

-- and the sooner number is that of the lesser place
pub sooner_place : (o p q : ℕ) → p < q + 2 ^ 31 → q < p + 2 ^ 31 → sooner_number (number_at o p) (number_at o q) ≡ number_at o (min p q)
sooner_place o p q a b = ⊎_elim
    (λ l. rw (order_agrees o p q a b, lt-ltb p q l) (ap (number_at o) (omega arith)))
    (λ l. rw (order_agrees o p q a b, le-ltb p q l) (ap (number_at o) (omega arith)))
    (cases_lt p q)

-- what the test says of the distance, where it fails
pub not_before : (a b : ℕ) → number_is_before a b ≡ false → (a + (2 ^ 32 - b)) % 2 ^ 32 < 2 ^ 31
unfolding number_is_before number_distance
not_before a b e = grind (arith, nat_tests)

-- and where it holds
pub is_before : (a b : ℕ) → number_is_before a b ≡ true → 2 ^ 31 ≤ (a + (2 ^ 32 - b)) % 2 ^ 32
unfolding number_is_before number_distance
is_before a b e = grind (arith, nat_tests)

-- a number is its distance past another
pub distance_back : (a b : ℕ) → a < 2 ^ 32 → b < 2 ^ 32 → a ≡ (b + number_distance a b) % 2 ^ 32
unfolding number_distance
distance_back a b l m = omega arith

-- no number lies past itself
pub distance_self : (a : ℕ) → a < 2 ^ 32 → number_distance a a ≡ 0
unfolding number_distance
distance_self a l = omega arith

-- a number that the other is not before is the sooner of the two
pub sooner_same : (a b : ℕ) → a < 2 ^ 32 → b < 2 ^ 32 → number_is_before b a ≡ false → sooner_number a b ≡ a
sooner_same a b l m e = go (number_is_before a b) refl
  where
    go : (t : Bool) → number_is_before a b ≡ t → sooner_number a b ≡ a
    go true k = rw k refl
    go false k = rw k (omega (arith, not_before _ _ e, not_before _ _ k))
