-- Octets, and numbers of two octets in network order, the high octet first.
use Rattle.std.specs.Prelude.{ℕ, ◌+◌, ◌*◌, ◌/◌, ◌%◌, ◌<◌, List, [], ◌∷◌, ◌++◌, slice_index, All}

abbrev pub IsOctets : List ℕ → Type 0
IsOctets octets = All (λ octet. octet < 256) octets

-- a number modulo 2^16
abbrev pub be16 : ℕ → List ℕ
be16 n = n / 256 % 256 ∷ n % 256 ∷ []

-- a number modulo 2^32
abbrev pub be32 : ℕ → List ℕ
be32 n = be16 (n / 65536) ++ be16 n

-- the number at offset i
abbrev pub be16_at : List ℕ → ℕ → ℕ
be16_at octets i = 256 * slice_index octets i + slice_index octets (i + 1)

-- the number of the four octets at offset i
abbrev pub be32_at : List ℕ → ℕ → ℕ
be32_at octets i = 65536 * be16_at octets i + be16_at octets (i + 2)
