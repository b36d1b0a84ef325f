-- The shift of a window field, by the number of bits of the capacity.
use Rattle.std.proofs.Common.{◌≡◌, ℕ, zero, suc, ◌+◌, ◌*◌, ◌/◌, ◌^◌, ◌<◌, ◌≤◌, refl, ⊎_elim, inl, inr, arith}
use Rattle.std.specs.Prelude.{min}
use Rattle.std.proofs.lemmas.Bool.{cases_lt, le-ltb, lt-ltb}
use Rattle.std.proofs.lemmas.Nat.{pow-add}
use Rattle.std.proofs.Math.Pow.{pow_mono}
use Rattle.sock_core.specs.WindowShift.{halvings, window_shift}

-- r halvings bring n below 2 ^ 16 (or are the most there may be), and fewer do not
pub halvings_is : (most r n : ℕ) → r ≤ most → (r < most → n < 2 ^ 16 * 2 ^ r) → (0 < r → 2 ^ 16 * 2 ^ r ≤ 2 * n) → r ≡ halvings most n
halvings_is zero r n few below least = omega arith
halvings_is (suc most) zero n few below least = rw (lt-ltb n (2 ^ 16) (below (omega arith))) refl
halvings_is (suc most) (suc r) n few below least =
    let one : 2 ^ 16 * 2 ^ suc r ≤ 2 * n = least (omega arith) in
    let positive : 1 ≤ 2 ^ r = pow_mono {i = 0} {j = r} (omega arith) in
    let enough : 2 ^ 16 ≤ n = omega arith in
    let rest : r ≡ halvings most (n / 2) =
    halvings_is most r (n / 2) (omega arith) (λ l. let b : n < 2 ^ 16 * 2 ^ suc r = below (omega arith) in omega arith) (λ l. omega arith) in
    rw (le-ltb n (2 ^ 16) enough) (omega arith)

-- ---- what the halvings give

pub halvings_at_most : (most n : ℕ) → halvings most n ≤ most
halvings_at_most zero n = omega arith
halvings_at_most (suc most) n = elim (cases_lt n (2 ^ 16)) [
  | inl small ↦ rw (lt-ltb n (2 ^ 16) small) (omega arith)
  | inr large ↦ rw (le-ltb n (2 ^ 16) large) (omega (arith, halvings_at_most most (n / 2)))
]

pub halvings_fit : (most n : ℕ) → n < 2 ^ 16 * 2 ^ most → n < 2 ^ 16 * 2 ^ halvings most n
halvings_fit zero n h = h
halvings_fit (suc most) n h = elim (cases_lt n (2 ^ 16)) [
  | inl small ↦ rw (lt-ltb n (2 ^ 16) small) (omega arith)
  | inr large ↦
      let below : n / 2 < 2 ^ 16 * 2 ^ halvings most (n / 2) = halvings_fit most (n / 2) (omega arith) in
      rw (le-ltb n (2 ^ 16) large, pow-add 2 (halvings most (n / 2)) 1) (omega arith)
]

pub halvings_least : (most n : ℕ) → 0 < halvings most n → 2 ^ 16 * 2 ^ halvings most n ≤ 2 * n
halvings_least zero n = λ h. absurd (omega arith)
halvings_least (suc most) n = elim (cases_lt n (2 ^ 16)) [
  | inl small ↦ rw (lt-ltb n (2 ^ 16) small) (λ h. absurd (omega arith))
  | inr large ↦ rw (le-ltb n (2 ^ 16) large, pow-add 2 (halvings most (n / 2)) 1) (λ h. ⊎_elim
      (λ (some : 0 < halvings most (n / 2)). omega (arith, halvings_least most (n / 2) some))
      (λ (none : halvings most (n / 2) ≤ 0). let e : halvings most (n / 2) ≡ 0 = omega arith in rw e (omega arith))
      (cases_lt 0 (halvings most (n / 2))))
]

-- ---- the shift

pub shift_at_most : (n : ℕ) → window_shift n ≤ 14
unfolding window_shift
shift_at_most n = halvings_at_most 14 n

pub shift_fits : (n : ℕ) → n < 2 ^ 30 → n < 2 ^ (16 + window_shift n)
unfolding window_shift
shift_fits n h = rw (pow-add 2 16 (halvings 14 n)) (halvings_fit 14 n h)

pub shift_least : (n : ℕ) → 0 < window_shift n → 2 ^ (15 + window_shift n) ≤ n
unfolding window_shift
shift_least n h = rw (pow-add 2 15 (halvings 14 n)) (omega (arith, halvings_least 14 n h))

-- the capacity n has the bits l + 17, since n / 2 ^ 16 has the bits l + 1
pub shift_is : (n l r : ℕ) → 2 ^ l ≤ n / 65536 → n / 65536 < 2 * 2 ^ l → r ≡ min (l + 1) 14 → r ≡ window_shift n
unfolding window_shift
shift_is n l r low high is = halvings_is 14 r n (omega arith) below least
  where
    below : r < 14 → n < 2 ^ 16 * 2 ^ r
    below h = let e : r ≡ suc l = omega arith in rw e (omega arith)

    least : 0 < r → 2 ^ 16 * 2 ^ r ≤ 2 * n
    least h = let m : 2 ^ r ≤ 2 ^ suc l = pow_mono {i = r} {j = suc l} (omega arith) in omega arith

-- and of a number that is the shift
pub is_shift_fits : (n r : ℕ) → r ≡ window_shift n → n < 2 ^ 30 → n < 2 ^ (16 + r)
is_shift_fits n r is h = rw is (shift_fits n h)

pub is_shift_least : (n r : ℕ) → r ≡ window_shift n → 0 < r → 2 ^ (15 + r) ≤ n
is_shift_least n r is h = let k : 0 < window_shift n = omega (arith, is, h) in rw is (shift_least n k)
