-- The moments that an interface may be at.
use Rattle.std.specs.Prelude.{ℤ, pos, negsuc, int_lt, if◌then◌else◌}

-- within 2^60 microseconds of zero
abbrev pub lawful_micros : ℤ → ℤ
lawful_micros z =
    if int_lt z (negsuc 1152921504606846975) then negsuc 1152921504606846975
    else (if int_lt (pos 1152921504606846976) z then pos 1152921504606846976 else z)
