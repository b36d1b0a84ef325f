-- Lemmas on places counted around the end.
use Rattle.std.proofs.Common.{◌≡◌, ℕ, ◌+◌, ◌-◌, ◌<◌, ◌≤◌, Bool, cond, ltb, sym, ap, ◌∙◌, inl, inr, arith}
use Rattle.std.proofs.lemmas.Bool.{cases_lt, lt-ltb, le-ltb}
use Rattle.net_base.specs.Packets.{place_of, fits}

pub place_of-low : (m k n : ℕ) → k + n < m → place_of m k n ≡ k + n
place_of-low m k n h = ap (λ (b : Bool). cond b (k + n) (k + n - m)) (lt-ltb (k + n) m h)

pub place_of-high : (m k n : ℕ) → m ≤ k + n → place_of m k n ≡ k + n - m
place_of-high m k n h = ap (λ (b : Bool). cond b (k + n) (k + n - m)) (le-ltb (k + n) m h)

-- what `place` answers
pub place_is : (m k n p : ℕ) → (k + n < m → p ≡ k + n) → (m ≤ k + n → p + m ≡ k + n) → p ≡ place_of m k n
place_is m k n p low high = elim (cases_lt (k + n) m) [
  | inl is_low ↦ low is_low ∙ sym (place_of-low m k n is_low)
  | inr is_high ↦ (let e = high is_high in let f : p ≡ k + n - m = omega arith in f) ∙ sym (place_of-high m k n is_high)
]

pub place_of-place_of : (m k a b : ℕ) → k ≤ m - 1 → a + b ≤ m → place_of m (place_of m k a) b ≡ place_of m k (a + b)
place_of-place_of m k a b start fits = elim (cases_lt (k + a) m) [
  | inl low ↦ ap (λ j. place_of m j b) (place_of-low m k a low) ∙ ap (λ (c : ℕ). cond (ltb c m) c (c - m)) (omega arith)
  | inr high ↦
      ap (λ j. place_of m j b) (place_of-high m k a high)
      ∙ elim (cases_lt (k + a - m + b) m) [
        | inl l ↦ place_of-low m (k + a - m) b l ∙ (let e : k + a - m + b ≡ k + (a + b) - m = omega arith in e) ∙ sym (place_of-high m k (a + b) (omega arith))
        | inr h ↦ place_of-high m (k + a - m) b h ∙ (let e : k + a - m + b - m ≡ k + (a + b) - m = omega arith in e) ∙ sym (place_of-high m k (a + b) (omega arith))
      ]
]

pub place_of-within : (m k a : ℕ) → k ≤ m - 1 → a ≤ m → place_of m k a ≤ m - 1
place_of-within m k a start fits = elim (cases_lt (k + a) m) [
  | inl low ↦ let e = place_of-low m k a low in omega arith
  | inr high ↦ let e = place_of-high m k a high in omega arith
]
