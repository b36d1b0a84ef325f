-- A header with no octets behind its twenty has no options.
use Rattle.std.proofs.Common.{◌≡◌, ℕ, List, [], ◌∷◌, length, Some, refl, arith}
use Rattle.segment_wire.specs.Options.{no_options, options_read}

pub none_read : (octets : List ℕ) → length octets ≡ 0 → options_read 0 no_options octets ≡ Some no_options
none_read [] e = refl
none_read (octet ∷ octets) e = absurd (omega (arith, e))
