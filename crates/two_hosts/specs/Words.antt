-- The words of a linear congruential generator of 32 bits, from a seed that is the first of them.
use Rattle.std.specs.Prelude.{ℕ, zero, suc, ◌+◌, ◌*◌, ◌%◌, ◌^◌}

abbrev pub step : ℕ → ℕ
step n = (n * 1664525 + 1013904223) % 2 ^ 32

unfoldable pub word_after : ℕ → ℕ → ℕ
word_after n zero = n
word_after n (suc k) = word_after (step n) k
