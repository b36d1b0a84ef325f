-- How a script falls into lines, and a line into words, from the front.
use Rattle.std.proofs.Common.{ℕ, ◌+◌, ◌<◌, ◌≡◌, ◌==◌, List, [], ◌∷◌, length, take, drop, filter, Bool, true, false, nat_lt, suc, refl, sym, ◌∙◌, ap, arith, add-one}
use Rattle.std.specs.List.{onto_first, slice_split, position_or_len, prefix_len}
use Rattle.std.proofs.lemmas.Bool.{lt-ltb}
use Rattle.sock_pair.specs.ScriptText.{is_comment, is_skipped, lines_of, numbered_from, words_of}

one-add : (k : ℕ) → 1 + k ≡ suc k
one-add k = omega arith

abbrev is_space : ℕ → Bool
is_space b = b == 32

abbrev is_word : List ℕ → Bool
is_word word = nat_lt 0 (length word)

words-drop_spaces_at : (x : ℕ) (xs : List ℕ) (t : Bool) → (x == 32) ≡ t → words_of (drop (prefix_len is_space xs) xs) ≡ words_of xs → words_of (drop (prefix_len is_space (x ∷ xs)) (x ∷ xs)) ≡ words_of (x ∷ xs)
unfolding words_of
words-drop_spaces_at x xs true e rest = rw (e, one-add) rest
words-drop_spaces_at x xs false e rest = rw e (rw e refl)

-- spaces at the front of a line are no word
pub words-drop_spaces : (xs : List ℕ) → words_of (drop (prefix_len (λ b. b == 32) xs) xs) ≡ words_of xs
words-drop_spaces [] = refl
words-drop_spaces (x ∷ xs) = words-drop_spaces_at x xs (x == 32) refl (words-drop_spaces xs)

-- the parts after the first, in what is left from the element on that ends the first
abbrev rest_parts : List ℕ → List (List ℕ)
rest_parts [] = []
rest_parts (x ∷ xs) = slice_split is_space xs

abbrev end_of : List ℕ → ℕ
end_of xs = position_or_len is_space xs

parts_at : (x : ℕ) (xs : List ℕ) (t : Bool) → (x == 32) ≡ t → slice_split is_space xs ≡ take (end_of xs) xs ∷ rest_parts (drop (end_of xs) xs) → slice_split is_space (x ∷ xs) ≡ take (end_of (x ∷ xs)) (x ∷ xs) ∷ rest_parts (drop (end_of (x ∷ xs)) (x ∷ xs))
parts_at x xs true e rest = rw e refl
parts_at x xs false e rest = rw (e, one-add, rest) refl

parts : (xs : List ℕ) → slice_split is_space xs ≡ take (end_of xs) xs ∷ rest_parts (drop (end_of xs) xs)
parts [] = refl
parts (x ∷ xs) = parts_at x xs (x == 32) refl (parts xs)

words_from_end_at : (x : ℕ) (xs : List ℕ) (t : Bool) → (x == 32) ≡ t → words_of (drop (end_of xs) xs) ≡ filter is_word (rest_parts (drop (end_of xs) xs)) → words_of (drop (end_of (x ∷ xs)) (x ∷ xs)) ≡ filter is_word (rest_parts (drop (end_of (x ∷ xs)) (x ∷ xs)))
unfolding words_of
words_from_end_at x xs true e rest = rw e (rw e refl)
words_from_end_at x xs false e rest = rw (e, one-add) rest

words_from_end : (xs : List ℕ) → words_of (drop (end_of xs) xs) ≡ filter is_word (rest_parts (drop (end_of xs) xs))
unfolding words_of
words_from_end [] = refl
words_from_end (x ∷ xs) = words_from_end_at x xs (x == 32) refl (words_from_end xs)

word_and_rest : (word : List ℕ) (xs : List ℕ) → 0 < length word → filter is_word (word ∷ rest_parts (drop (end_of xs) xs)) ≡ word ∷ words_of (drop (end_of xs) xs)
word_and_rest word xs some = rw (lt-ltb 0 (length word) some, words_from_end xs) refl

-- where a line does not begin with a space, its first word goes up to the next space
pub words-first : (xs : List ℕ) → 0 < length (take (position_or_len (λ b. b == 32) xs) xs) → words_of xs ≡ take (position_or_len (λ b. b == 32) xs) xs ∷ words_of (drop (position_or_len (λ b. b == 32) xs) xs)
unfolding words_of
words-first xs some = ap (λ ps. filter is_word ps) (parts xs) ∙ word_and_rest (take (end_of xs) xs) xs some

no_word : words_of [] ≡ []
unfolding words_of
no_word = refl

-- a line of spaces alone has no word
pub words-none : (line rest : List ℕ) (k : ℕ) → k ≡ prefix_len (λ b. b == 32) line → rest ≡ drop k line → length rest ≡ 0 → words_of line ≡ []
words-none line [] k skipped e none = sym (words-drop_spaces line) ∙ rw (← skipped, ← e) no_word
words-none line (x ∷ xs) k skipped e none = absurd (omega (arith, none))

starts_at : (x : ℕ) (xs : List ℕ) (t : Bool) → (x == 32) ≡ t → (0 < length (drop (prefix_len is_space xs) xs) → 0 < length (take (end_of (drop (prefix_len is_space xs) xs)) (drop (prefix_len is_space xs) xs))) → 0 < length (drop (prefix_len is_space (x ∷ xs)) (x ∷ xs)) → 0 < length (take (end_of (drop (prefix_len is_space (x ∷ xs)) (x ∷ xs))) (drop (prefix_len is_space (x ∷ xs)) (x ∷ xs)))
starts_at x xs true e before some = rw (e, one-add) (before (rw (e, one-add) at some))
starts_at x xs false e before some = rw e (rw (e, one-add) (omega arith))

-- what stands behind the spaces begins with a word
starts : (xs : List ℕ) → 0 < length (drop (prefix_len is_space xs) xs) → 0 < length (take (end_of (drop (prefix_len is_space xs) xs)) (drop (prefix_len is_space xs) xs))
starts [] some = absurd (omega (arith, some))
starts (x ∷ xs) some = starts_at x xs (x == 32) refl (starts xs) some

-- the first word, and what stands behind it
pub words-split : (line rest after : List ℕ) (k e : ℕ) → k ≡ prefix_len (λ b. b == 32) line → rest ≡ drop k line → 0 < length rest → e ≡ position_or_len (λ b. b == 32) rest → after ≡ drop e rest → words_of line ≡ take e rest ∷ words_of after
words-split line rest after k e skipped is_rest some ends is_after =
    let here : rest ≡ drop (prefix_len is_space line) line = is_rest ∙ ap (λ n. drop n line) skipped in
    let long : 0 < length (take (end_of rest) rest) = rw here (starts line (rw here at some)) in
    sym (words-drop_spaces line) ∙ rw (← here) (rw (is_after, ends) (words-first rest long))

abbrev is_feed : ℕ → Bool
is_feed b = b == 10

abbrev line_end : List ℕ → ℕ
line_end xs = position_or_len is_feed xs

lines_step : (x : ℕ) (xs : List ℕ) (k : ℕ) → lines_of xs ≡ take k xs ∷ lines_of (drop (k + 1) xs) → onto_first x (lines_of xs) ≡ take (1 + k) (x ∷ xs) ∷ lines_of (drop (1 + k + 1) (x ∷ xs))
lines_step x xs k h = rw (h, one-add k, add-one (suc k), add-one k) refl

lines_at : (x : ℕ) (xs : List ℕ) (t : Bool) → (x == 10) ≡ t → (0 < length xs → lines_of xs ≡ take (line_end xs) xs ∷ lines_of (drop (line_end xs + 1) xs)) → lines_of (x ∷ xs) ≡ take (line_end (x ∷ xs)) (x ∷ xs) ∷ lines_of (drop (line_end (x ∷ xs) + 1) (x ∷ xs))
unfolding lines_of
lines_at x xs true e rest = rw e refl
lines_at x [] false e rest = rw e refl
lines_at x (y ∷ ys) false e rest = rw e (lines_step x (y ∷ ys) (line_end (y ∷ ys)) (rest (omega arith)))

-- the first line goes up to the first line feed
lines-first : (xs : List ℕ) → 0 < length xs → lines_of xs ≡ take (line_end xs) xs ∷ lines_of (drop (line_end xs + 1) xs)
lines-first [] some = absurd (omega (arith, some))
lines-first (x ∷ xs) some = lines_at x xs (x == 10) refl (lines-first xs)

-- the first line, and what stands behind its line feed
pub lines-split : (text after : List ℕ) (e : ℕ) → 0 < length text → e ≡ position_or_len (λ b. b == 10) text → after ≡ drop (e + 1) text → lines_of text ≡ take e text ∷ lines_of after
lines-split text after e some ends is_after = rw (is_after, ends) (lines-first text some)

pub lines-none : (text : List ℕ) → length text ≡ 0 → lines_of text ≡ []
unfolding lines_of
lines-none [] none = refl
lines-none (x ∷ xs) none = absurd (omega (arith, none))

pub numbered-none : (n : ℕ) → numbered_from n [] ≡ []
unfolding numbered_from
numbered-none n = refl

numbered-skipped : (n : ℕ) (line : List ℕ) (rest : List (List ℕ)) → is_skipped line ≡ true → numbered_from n (line ∷ rest) ≡ numbered_from (n + 1) rest
unfolding numbered_from
numbered-skipped n line rest e = rw e refl

-- a line that is skipped
pub numbered-skip : (n m : ℕ) (text line after : List ℕ) → lines_of text ≡ line ∷ lines_of after → m ≡ n + 1 → is_skipped line ≡ true → numbered_from n (lines_of text) ≡ numbered_from m (lines_of after)
numbered-skip n m text line after h e skipped = rw (h, e) (numbered-skipped n line (lines_of after) skipped)

pub skipped-comment : (line : List ℕ) → is_comment line ≡ true → is_skipped line ≡ true
skipped-comment line e = rw e refl

pub skipped-blank : (line : List ℕ) → is_comment line ≡ false → words_of line ≡ [] → is_skipped line ≡ true
skipped-blank line e h = rw (e, h) refl

-- a line that is not
pub numbered-line : (n m : ℕ) (text line word after : List ℕ) (words : List (List ℕ)) → lines_of text ≡ line ∷ lines_of after → m ≡ n + 1 → is_comment line ≡ false → words_of line ≡ word ∷ words → numbered_from n (lines_of text) ≡ (n, word ∷ words) ∷ numbered_from m (lines_of after)
unfolding numbered_from
numbered-line n m text line word after words h e kept is_words = rw (h, e) (rw (kept, is_words) refl)

-- the numbers go up by one a line
pub count-line : (n m : ℕ) (text line after : List ℕ) → lines_of text ≡ line ∷ lines_of after → m ≡ n + 1 → m + length (lines_of after) ≡ n + length (lines_of text)
count-line n m text line after h e = rw h (omega (arith, e))
