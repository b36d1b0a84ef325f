-- What a SYN offers beside the size of a segment, as an answer's timestamp brings it back: in its five lowest bits.
use Rattle.std.specs.Prelude.{ℕ, ◌≡◌, ◌+◌, ◌-◌, ◌/◌, ◌%◌, ◌<◌, ◌==◌, min, Option, Some, None, option_map, Bool}
use Rattle.std.specs.Prelude.{if◌then◌else◌}

-- ---- the bits

-- a window scale, of which more than 14 counts as 14 (RFC 7323, section 2.3), or 15 for none
abbrev pub scale_bits : Option ℕ → ℕ
scale_bits None = 15
scale_bits (Some n) = min n 14

-- and whether SACK is permitted
abbrev pub offer_bits : Option ℕ → Bool → ℕ
offer_bits scale sack = scale_bits scale + (if sack then 16 else 0)

abbrev pub scale_in : ℕ → Option ℕ
scale_in stamp = if stamp % 16 == 15 then None else Some (stamp % 16)

abbrev pub sack_in : ℕ → Bool
sack_in stamp = stamp / 16 % 2 == 1

-- ---- the timestamp

-- how far back the last value of a clock with these bits lies
abbrev pub back_to : (clock bits : ℕ) → ℕ
back_to clock bits = (clock + 32 - bits) % 32

abbrev pub stamped : (clock bits : ℕ) → ℕ
stamped clock bits = (clock + 4294967296 - back_to clock bits) % 4294967296

-- ---- the number

-- what a number stands for beside the class, where the answer told these bits; else 0
abbrev pub told_number : ℕ → ℕ
told_number bits = bits + 1

-- ---- the law

-- the last value of the clock that has the bits, by which the offer comes back
pub record ComesBack (clock : ℕ) (offered : Option ℕ) (permits : Bool) (stamp : ℕ) : Type 0 where
  pub behind : (clock + 4294967296 - stamp) % 4294967296 < 32
  pub bits : stamp % 32 ≡ offer_bits offered permits
  pub scale : scale_in stamp ≡ option_map (λ n. min n 14) offered
  pub sack : sack_in stamp ≡ permits

abbrev pub OffersComeBack : Type 0
OffersComeBack =
    (clock : ℕ) (scale : Option ℕ) (sack : Bool) → clock < 4294967296
    → ComesBack clock scale sack (stamped clock (offer_bits scale sack))
