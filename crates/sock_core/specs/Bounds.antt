-- Bounds of moments and of packets.
use Rattle.std.specs.Prelude.{ℕ, ℤ, pos, negsuc, ◌≤◌, ◌≤ℤ◌}

-- within 2^61 microseconds of zero
abbrev pub IsMoment : ℤ → Type 0
IsMoment z = (negsuc 2305843009213693951 ≤ℤ z) × (z ≤ℤ pos 2305843009213693952)

-- what every link of IPv4 carries at least (RFC 791, section 3.2), and the longest packet
abbrev pub IsMtu : ℕ → Type 0
IsMtu n = (68 ≤ n) × (n ≤ 65535)

-- what every host of IPv4 takes at least (RFC 791, section 3.1)
abbrev pub IsHostMtu : ℕ → Type 0
IsHostMtu n = (576 ≤ n) × (n ≤ 65535)
