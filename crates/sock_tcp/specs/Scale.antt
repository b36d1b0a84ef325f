-- By how many bits a window field is shifted.
use Rattle.std.specs.Prelude.{ℕ, Option, Some, None}

abbrev pub scale_of : Option ℕ → ℕ
scale_of None = 0
scale_of (Some n) = n
