-- What was read of words, or what is wrong with them.
use Rattle.std.specs.Prelude.{Option, Some, None, Result, Ok, Err, MatchResult, ◌≡◌}
use Rattle.drill_lines.specs.declared.wrong.Wrong.{Wrong}
use Rattle.drill_lines.specs.declared.wrong.Wrong.TheVariants as wrong

-- what was read is what is meant, its value seen by `value`
abbrev pub Reads : {T V : Type 0} → (T → V) → Result V Wrong → Result T Wrong → Type 0
Reads value meant result = MatchResult result (λ x. meant ≡ Ok (value x)) (λ e. meant ≡ Err e)

abbrev pub or_word : {V : Type 0} → Option V → Result V Wrong
or_word None = Err wrong.Word
or_word (Some v) = Ok v

-- of a line with the words that it is to have, or without
abbrev pub by : {W V : Type 0} → (W → Option V) → Option W → Result V Wrong
by value None = Err wrong.Number
by value (Some words) = or_word (value words)

abbrev pub mapped : {A B : Type 0} → (A → B) → Result A Wrong → Result B Wrong
mapped f (Ok x) = Ok (f x)
mapped f (Err e) = Err e
