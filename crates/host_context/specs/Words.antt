-- The words of a linear congruential generator of 64 bits, of each the upper half (Knuth, MMIX).
use Rattle.std.specs.Prelude.{ℕ, zero, suc, ◌+◌, ◌*◌, ◌%◌, ◌^◌}

abbrev pub step : ℕ → ℕ
step n = (n * 6364136223846793005 + 1442695040888963407) % 2 ^ 64

unfoldable pub state_at : ℕ → ℕ → ℕ
state_at n zero = step n
state_at n (suc k) = state_at (step n) k
