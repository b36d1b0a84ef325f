-- By how many bits a window is shifted for the window field (RFC 7323, section 2.3).
use Rattle.std.specs.Prelude.{ℕ, zero, suc, ◌+◌, ◌/◌, ◌^◌, nat_lt, if◌then◌else◌}

-- how often a window is halved, at most `most` times, until 16 bits hold it
abbrev pub halvings : ℕ → ℕ → ℕ
halvings zero window = 0
halvings (suc most) window = if nat_lt window (2 ^ 16) then 0 else halvings most (window / 2) + 1

-- the bits that write the capacity, less 16, at least 0 and at most 14
unfoldable pub window_shift : ℕ → ℕ
window_shift capacity = halvings 14 capacity
