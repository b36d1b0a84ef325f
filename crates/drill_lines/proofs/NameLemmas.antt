-- Names by their bytes.
use Rattle.std.proofs.Common.{ℕ, ◌+◌, List, [], ◌∷◌, ◌++◌, length, map, true, false, suc, Option, ◌≡◌, ◌∙◌, refl, ap, sym}
use Rattle.std.specs.Prelude.{Bool, bytes_eq, not, cond}
use Rattle.std.specs.Borrow.{Bor}
use Rattle.std.specs.List.{position_or_len}
use Rattle.std.proofs.lemmas.List.{map-append}
use Rattle.sock_pair.specs.ScriptWords.{Word}
use Rattle.drill_lines.specs.Names.{place_among, place_in, words_in}

pub count : (names : List (Bor Word)) → length (words_in names) ≡ length names
unfolding words_in
count [] = refl
count (x ∷ xs) = ap suc (count xs)

places : (names : List (Bor Word)) (word : Word) → position_or_len (λ name. bytes_eq name word) (words_in names) ≡ position_or_len (λ name. bytes_eq name.now word) names
unfolding words_in
places [] word = refl
places (x ∷ xs) word = ap (λ n. cond (not (bytes_eq x.now word)) (1 + n) 0) (places xs word)

-- the place of a name
pub placed : (names : List (Bor Word)) (word : Word) → place_in (words_in names) word ≡ place_among names word
unfolding place_in place_among
placed names word = rw (places names word, count names) refl

-- one name more
pub added : (names : List (Bor Word)) (word : Bor Word) → words_in (names ++ word ∷ []) ≡ words_in names ++ word.now ∷ []
unfolding words_in
added names word = map-append (λ name. name.now) names (word ∷ [])
