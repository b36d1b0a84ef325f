-- Cubes grow, so what lies between two of them has one root.
use Rattle.std.proofs.Common.{◌≡◌, ℕ, zero, suc, ◌+◌, ◌*◌, ◌<◌, ◌≤◌, nat_lt, Bool, true, false, cond, refl, sym, subst, arith}
use Rattle.std.proofs.lemmas.Bool.Decides.{nat_tests}
use Rattle.std.proofs.Math.Nat.{mul-le-mul_left, mul-le-mul_right, le_trans, lt_irrefl}
use Rattle.sock_core.specs.CubeRoot.{cube, cube_root, greatest_root}

pub cubes_grow : (a b : ℕ) → a ≤ b → cube a ≤ cube b
cubes_grow a b h =
    let first : a * a ≤ b * b = le_trans (mul-le-mul_left a h) (mul-le-mul_right b h) in
    le_trans (mul-le-mul_right a first) (mul-le-mul_left (b * b) h)

-- a number below 2 ^ 21 has a cube below 2 ^ 63
pub bounded_cube : (n : ℕ) → n < 2097152 → n * n * n ≤ 9223358842721533951
bounded_cube n h = cubes_grow n 2097151 (omega (arith, h))

-- a cube that is beyond another is of a greater number
pub beyond : (a b x : ℕ) → cube a ≤ x → x < cube b → a < b
beyond a b x low high = by (nat_lt a b) refl
  where
    by : (t : Bool) → nat_lt a b ≡ t → a < b
    by true e = grind (arith, nat_tests, e)
    by false e =
        let k : b ≤ a = grind (arith, nat_tests, e) in
        let more : cube b ≤ cube a = cubes_grow b a k in
        absurd (lt_irrefl x (le_trans high (le_trans more low)))

pub is_root : (n x r : ℕ) → r ≤ n → cube r ≤ x → x < cube (suc r) → greatest_root n x ≡ r
unfolding greatest_root
is_root zero x r within low high = omega (arith, within)
is_root (suc n) x r within low high = go (is_root n x r) (nat_lt x (cube (suc n))) refl
  where
    go : ((r ≤ n) → cube r ≤ x → x < cube (suc r) → greatest_root n x ≡ r) → (b : Bool) → nat_lt x (cube (suc n)) ≡ b → cond b (greatest_root n x) (suc n) ≡ r
    go further true e =
        let k : x < cube (suc n) = grind (arith, nat_tests, e) in
        let below : r < suc n = beyond r (suc n) x low k in
        further (omega (arith, below)) low high
    go further false e =
        let k : cube (suc n) ≤ x = grind (arith, nat_tests, e) in
        let above : suc n < suc r = beyond (suc n) (suc r) x k high in
        omega (arith, above, within)

pub found : (x low high : ℕ) → cube low ≤ x → x < cube high → low < high → high ≤ 2097152 → high ≤ low + 1 → cube_root x ≡ low
found x low high below above order small near =
    let next : high ≡ suc low = omega (arith, order, near) in
    is_root 2097151 x low (omega (arith, order, small)) below (subst (λ h. x < cube h) next above)
