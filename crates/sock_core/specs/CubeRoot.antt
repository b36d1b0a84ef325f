-- Cube roots of natural numbers, rounded down
use Rattle.std.specs.Prelude.{ℕ, zero, suc, ◌*◌, nat_lt, if◌then◌else◌}

abbrev pub cube : ℕ → ℕ
cube n = n * n * n

-- the greatest number up to the first whose cube is at most x
unfoldable pub greatest_root : ℕ → ℕ → ℕ
greatest_root zero x = zero
greatest_root (suc n) x = if nat_lt x (cube (suc n)) then greatest_root n x else suc n

-- of x below 2 ^ 63
abbrev pub cube_root : ℕ → ℕ
cube_root x = greatest_root 2097151 x
