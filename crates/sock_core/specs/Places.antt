-- Places in a stream, and the 32-bit numbers that stand for them (RFC 9293, section 3.4).
-- A place is a natural number and never wraps. Place 1 is that of the SYN, place k + 2 that of the stream's byte k
-- (counted from 0), and the FIN stands behind the last byte. Place 0 is there for the keep-alive that goes out while
-- the SYN is unacknowledged.
use Rattle.std.specs.Prelude.{ℕ, ◌≡◌, ◌+◌, ◌-◌, ◌%◌, ◌^◌, ◌<◌, Bool, nat_le, nat_lt, if◌then◌else◌}

-- the number of a place. The origin is the number of place 0, which is the initial sequence number less 1
unfoldable pub number_at : ℕ → ℕ → ℕ
number_at origin place = (origin + place) % 2 ^ 32

-- how far the number a lies past the number b, going round
unfoldable pub number_distance : ℕ → ℕ → ℕ
number_distance a b = (a + (2 ^ 32 - b)) % 2 ^ 32

-- the number a comes before the number b
unfoldable pub number_is_before : ℕ → ℕ → Bool
number_is_before a b = nat_le (2 ^ 31) (number_distance a b)

-- the later of two numbers, and the sooner
abbrev pub later_number : ℕ → ℕ → ℕ
later_number a b = if number_is_before a b then b else a

abbrev pub sooner_number : ℕ → ℕ → ℕ
sooner_number a b = if number_is_before a b then a else b

-- two places are less than 2 ^ 31 apart
abbrev pub AreNear : ℕ → ℕ → Type 0
AreNear p q = (p < q + 2 ^ 31) × (q < p + 2 ^ 31)

-- the number of the one place is before that of the other exactly where its place is less
abbrev pub ComparesAsPlaces : ℕ → ℕ → ℕ → Type 0
ComparesAsPlaces origin p q = number_is_before (number_at origin p) (number_at origin q) ≡ nat_lt p q
