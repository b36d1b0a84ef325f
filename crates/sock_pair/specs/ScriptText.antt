-- A script as lines, and a line as words.
use Rattle.std.specs.Prelude.{ℕ, ◌+◌, List, [], ◌∷◌, length, Bool, true, false, ◌==◌, ◌||◌, nat_lt, filter}
use Rattle.std.specs.Prelude.{if◌then◌else◌}
use Rattle.std.specs.List.{onto_first, slice_split}
use Rattle.sock_pair.specs.declared.script.lines.Line.{Line}

-- lines end with a line feed (10), which the last may lack
unfoldable pub lines_of : List ℕ → List (List ℕ)
lines_of [] = []
lines_of (b ∷ bs) = if b == 10 then [] ∷ lines_of bs else onto_first b (lines_of bs)

-- words are parted by one space (32) or more; spaces before the first and after the last do not count
unfoldable pub words_of : List ℕ → List (List ℕ)
words_of line = filter (λ word. nat_lt 0 (length word)) (slice_split (λ b. b == 32) line)

-- a comment begins with `#` (35)
abbrev pub is_comment : List ℕ → Bool
is_comment [] = false
is_comment (b ∷ bs) = b == 35

abbrev pub has_none : List (List ℕ) → Bool
has_none [] = true
has_none (word ∷ words) = false

-- comments and lines without a word say nothing
abbrev pub is_skipped : List ℕ → Bool
is_skipped line = is_comment line || has_none (words_of line)

-- the words of each line that is not skipped, with its number, where the first line has number n
unfoldable pub numbered_from : ℕ → List (List ℕ) → List (ℕ × List (List ℕ))
numbered_from n [] = []
numbered_from n (line ∷ rest) =
    if is_skipped line then numbered_from (n + 1) rest
    else (n, words_of line) ∷ numbered_from (n + 1) rest

-- the same of the lines of a text whose first line has number n
abbrev pub lines_left : ℕ → List ℕ → List (ℕ × List (List ℕ))
lines_left n text = numbered_from n (lines_of text)

abbrev pub line_words : Line → List (List ℕ)
line_words line = line.name.now ∷ words_of line.values.now
