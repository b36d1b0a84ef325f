use Rattle.std.specs.Prelude.{ℕ, ◌+◌, ◌/◌, ◌%◌, ◌==◌, cond}

-- Byte k of the numbers.
abbrev pub number : ℕ → ℕ
number k = k % 251

-- A byte of a line: 72 characters, and the two bytes that end it (RFC 864).
abbrev pub place_of_line : ℕ → ℕ → ℕ
place_of_line line column =
    cond (column == 72) 13 (cond (column == 73) 10 (32 + (line + column) % 95))

-- Byte k of the lines: the 96th is the first again.
unfoldable pub character : ℕ → ℕ
character k = place_of_line (k / 74 % 95) (k % 74)
