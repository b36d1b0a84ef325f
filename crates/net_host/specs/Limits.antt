-- How many answers of one kind go out in a second.
use Rattle.std.specs.Prelude.{ℕ, ℤ, ◌≡◌, pos, ◌+◌, ◌*◌, ◌/◌, ◌%◌, ◌^◌, ◌<◌, ◌+ℤ◌, ◌≤◌, ◌&&◌, int_le, int_lt, nat_eq}
use Rattle.std.specs.Prelude.{List, []}
use Rattle.std.specs.Prelude.{◌∷◌, Bool, if◌then◌else◌, get_or, length, replicate, slice_set}
use Rattle.net_base.specs.declared.time.Instant.{Instant}
use Rattle.host_bounds.specs.Bounding.{at_once}
use Rattle.net_host.specs.declared.limit.Limit.{Limit}

-- ---- whose answers count together

-- of an address, by its number: one of IPv4 as it is, of IPv6 the first 64 bits, where they are not 0
abbrev pub part_of : ℕ → ℕ
part_of n = if nat_eq (n / 2 ^ 64) 0 then n % 2 ^ 64 else n / 2 ^ 64

-- one of 16 buckets, by multiplication with an odd number that no peer knows
abbrev pub bucket_of : (key n : ℕ) → ℕ
bucket_of key n = (key * 2 + 1) % 2 ^ 64 * part_of n % 2 ^ 64 / 1152921504606846976

-- ---- a bucket

abbrev pub new_key : ℕ
new_key = 11400714819323198485

-- nothing is taken in advance
abbrev pub full_limit : Limit
full_limit = record { key = new_key; seed = new_key; until = replicate 16 at_once }

-- the key is another, and what went out still counts
abbrev pub keyed : ℕ → Limit → Limit
keyed key l = record l { key = key; seed = key }

abbrev pub until_of : Limit → ℕ → ℤ
until_of l b = get_or l.until b at_once

-- an answer takes 20 milliseconds and up to 16 more by chance, of time that lies at most a second ahead
abbrev pub next_seed : ℕ → ℕ
next_seed n = (n * 6364136223846793005 + 1442695040888963407) % 2 ^ 64

abbrev pub takes : ℕ → ℤ
takes seed = pos (20000 + seed / 1125899906842624)

abbrev pub allows_in : Limit → ℕ → Instant → Bool
allows_in l b now = int_le (until_of l b) (now.micros +ℤ pos 980000)

abbrev pub later : ℤ → ℤ → ℤ
later t u = if int_le t u then u else t

abbrev pub taken_in : Limit → ℕ → Instant → Limit
taken_in l b now = record l {
  seed = next_seed l.seed;
  until = slice_set l.until b (later (until_of l b) now.micros +ℤ takes (next_seed l.seed));
}

-- whether one may go out to this address; where it may, its time is taken
abbrev pub allows : Limit → (source : ℕ) → Instant → Bool
allows l source now = allows_in l (bucket_of l.key source) now

abbrev pub spent : Limit → (source : ℕ) → Instant → Limit
spent l source now = if allows l source now then taken_in l (bucket_of l.key source) now else l

-- ---- the law

-- the moment lies in the second that begins here
abbrev pub in_second : ℤ → Instant → Bool
in_second start now = int_le start now.micros && int_lt now.micros (start +ℤ pos 1000000)

-- how many of the answers of a bucket, of those that are asked for to these addresses at these moments, go out in that
-- second
unfoldable pub gone : ℤ → ℕ → Limit → List (ℕ × Instant) → ℕ
gone start b l [] = 0
gone start b l (e ∷ rest) =
    (if nat_eq (bucket_of l.key e.0) b && (in_second start e.1 && allows l e.0 e.1) then 1 else 0)
    + gone start b (spent l e.0 e.1) rest

-- at most a hundred, also where moments go back
abbrev pub AnswersAreLimited : Type 0
AnswersAreLimited =
    (start : ℤ) (b : ℕ) (l : Limit) (asked : List (ℕ × Instant)) → b < 16 → length l.until ≡ 16
    → gone start b l asked ≤ 100
