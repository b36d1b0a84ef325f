-- The names of an example's sockets, in the order in which they were made.
use Rattle.std.specs.Prelude.{ℕ, ◌&&◌, List, length, map, Bool, Option, bytes_eq, nat_lt, not, is_some}
use Rattle.std.specs.Borrow.{Bor}
use Rattle.std.specs.List.{position}
use Rattle.sock_pair.specs.ScriptWords.{Word}

abbrev pub Names : Type 0
Names = List Word

-- names by their bytes
unfoldable pub words_in : List (Bor Word) → Names
words_in names = map (λ name. name.now) names

-- the place of a name, counted from 0
unfoldable pub place_in : Names → Word → Option ℕ
place_in names word = position (λ name. bytes_eq name word) names

-- the same among names that are lent
unfoldable pub place_among : List (Bor Word) → Word → Option ℕ
place_among names word = position (λ name. bytes_eq name.now word) names

-- whether no socket has this name, and there is room for one more
unfoldable pub is_free_in : Names → Word → Bool
is_free_in names word = nat_lt (length names) 16 && not (is_some (place_in names word))
