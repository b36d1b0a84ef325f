-- The events of a script's lines, one line after another.
use Rattle.std.proofs.Common.{ℕ, ◌+◌, List, [], ◌∷◌, ◌++◌, length, true, false, Result, Ok, Err, ◌≡◌, ◌∙◌, refl, sym, ap, subst, arith, append_assoc, length-append}
use Rattle.std.specs.Prelude.{IsOk, Bool, Option, Some, None, bytes_eq, codes, if◌then◌else◌}
use Rattle.std.proofs.lemmas.List.{append-nil}
use Rattle.sock_pair.specs.declared.script.error.ScriptError.{ScriptError}
use Rattle.sock_pair.specs.declared.script.error.ScriptError.TheVariants as fault
use Rattle.pair_core.specs.EventValue.{EventValue}
use Rattle.sock_pair.specs.ScriptLines.{EventsFault, IsFault, ReadsFirst, ScriptFault, by_words, event_of, events_of, first_and_rest, first_line, or_bad_word, pair_line, script_of, script_of_lines, with_events}
use Rattle.sock_pair.specs.ScriptText.{lines_left, lines_of}
use Rattle.sock_pair.specs.ScriptWords.{Word, five_of}

-- what was read before, and what the lines that are left mean
abbrev after_events : List EventValue → Result (List EventValue) ScriptError → Result (List EventValue) ScriptError
after_events done (Err e) = Err e
after_events done (Ok events) = Ok (done ++ events)

-- all lines: those that were read, which mean the events `done`, and those that are left
pub record HasRead (all left : List (ℕ × List Word)) (done : List EventValue) : Type 0 where
  pub first : List (ℕ × List Word)
  pub are : all ≡ first ++ left
  pub read : events_of first ≡ Ok done

abbrev no_event : Result (List EventValue) ScriptError
no_event = Ok []

-- the lines after some that were read
events_after : (xs ys : List (ℕ × List Word)) (done : List EventValue) → events_of xs ≡ Ok done → events_of (xs ++ ys) ≡ after_events done (events_of ys)
unfolding events_of
events_after [] ys done e = go done (events_of ys) e
  where
    go : (es : List EventValue) (r : Result (List EventValue) ScriptError) → no_event ≡ Ok es → r ≡ after_events es r
    go [] (Ok more) x = refl
    go [] (Err f) x = refl
    go (d ∷ es) r x = cc
events_after (x ∷ xs) ys done e = go (event_of x.0 x.1) (events_of xs) done (λ es is. events_after xs ys es is) refl e
  where
    with_first : (d : EventValue) (es : List EventValue) (r : Result (List EventValue) ScriptError) → first_and_rest (Ok d) (after_events es r) ≡ after_events (d ∷ es) r
    with_first d es (Ok more) = refl
    with_first d es (Err f) = refl

    go : (a : Result EventValue ScriptError) (b : Result (List EventValue) ScriptError) (ds : List EventValue) → ((es : List EventValue) → events_of xs ≡ Ok es → events_of (xs ++ ys) ≡ after_events es (events_of ys)) → events_of xs ≡ b → first_and_rest a b ≡ Ok ds → first_and_rest a (events_of (xs ++ ys)) ≡ after_events ds (events_of ys)
    go (Err f) b ds before is e = cc
    go (Ok d) (Err f) ds before is e = cc
    go (Ok d) (Ok es) [] before is e = cc
    go (Ok d) (Ok es) (c ∷ cs) before is e =
        let same : d ∷ es ≡ c ∷ cs = cc in
        ap (first_and_rest (Ok d)) (before es is) ∙ with_first d es (events_of ys) ∙ ap (λ zs. after_events zs (events_of ys)) same

one_event : (line : ℕ × List Word) (event : EventValue) → event_of line.0 line.1 ≡ Ok event → events_of (line ∷ []) ≡ Ok (event ∷ [])
unfolding events_of
one_event line event e = rw e refl

one_fault : (line : ℕ × List Word) (more : List (ℕ × List Word)) (f : ScriptError) → event_of line.0 line.1 ≡ Err f → events_of (line ∷ more) ≡ Err f
unfolding events_of
one_fault line more f e = rw e refl

no_events : events_of [] ≡ Ok []
unfolding events_of
no_events = refl

-- nothing was read
pub read_none : (all : List (ℕ × List Word)) → HasRead all all []
read_none all = record { first = []; are = refl; read = no_events }

module _ (all : List (ℕ × List Word)) (n : ℕ) (words : List Word) (left : List (ℕ × List Word)) (done : List EventValue) (r : HasRead all ((n, words) ∷ left) done) where
  -- a line that means an event
  pub read_more : (event : EventValue) → event_of n words ≡ Ok event → HasRead all left (done ++ event ∷ [])
  read_more event e = record {
    first = r.first ++ (n, words) ∷ [];
    are = r.are ∙ sym (append_assoc r.first ((n, words) ∷ []) left);
    read = events_after r.first ((n, words) ∷ []) done r.read ∙ ap (after_events done) (one_event (n, words) event e);
  }

  -- memory ran out at a line that means an event
  pub stops : IsOk (event_of n words) → ReadsFirst all
  unfolding read_more
  stops ok = go (event_of n words) refl ok
    where
      go : (m : Result EventValue ScriptError) → event_of n words ≡ m → IsOk m → ReadsFirst all
      go (Ok event) e x = let more = read_more event e in record {
        first = r.first ++ (n, words) ∷ [];
        others = left;
        are = more.are;
        some = omega (arith, length-append r.first ((n, words) ∷ []));
        read = subst IsOk (sym more.read) refl;
      }
      go (Err f) e x = let no : false ≡ true = x in cc

  -- a line with a fault
  pub faults : (f : ScriptError) → IsFault (event_of n words) f → EventsFault all f
  faults fault.Memory x = stops x
  faults (fault.NoPairLine k) x = ap events_of r.are ∙ events_after r.first ((n, words) ∷ left) done r.read ∙ ap (after_events done) (one_fault (n, words) left (fault.NoPairLine k) x)
  faults (fault.UnknownEvent k) x = ap events_of r.are ∙ events_after r.first ((n, words) ∷ left) done r.read ∙ ap (after_events done) (one_fault (n, words) left (fault.UnknownEvent k) x)
  faults (fault.WrongNumberOfWords k) x = ap events_of r.are ∙ events_after r.first ((n, words) ∷ left) done r.read ∙ ap (after_events done) (one_fault (n, words) left (fault.WrongNumberOfWords k) x)
  faults (fault.BadWord k) x = ap events_of r.are ∙ events_after r.first ((n, words) ∷ left) done r.read ∙ ap (after_events done) (one_fault (n, words) left (fault.BadWord k) x)

-- all lines were read
pub read_all : (all : List (ℕ × List Word)) (done : List EventValue) → HasRead all [] done → events_of all ≡ Ok done
read_all all done r = ap events_of (r.are ∙ append-nil r.first) ∙ r.read

-- ---- the first line

by_words_has_memory : {W X : Type 0} (n : ℕ) (value : W → Option X) (words : Option W) → by_words n value words ≡ Err fault.Memory → ⊥
by_words_has_memory n value None e = cc
by_words_has_memory {X = X} n value (Some w) e = go (value w) e
  where
    go : (v : Option X) → or_bad_word n v ≡ Err fault.Memory → ⊥
    go None e = cc
    go (Some v) e = cc

first_line_has_memory : (n : ℕ) (words : List Word) → first_line n words ≡ Err fault.Memory → ⊥
unfolding pair_line
first_line_has_memory n [] e = cc
first_line_has_memory n (name ∷ values) e = go (bytes_eq name (codes "pair")) e
  where
    go : (t : Bool) → (if t then pair_line n values else Err (fault.NoPairLine n)) ≡ Err fault.Memory → ⊥
    go true e = by_words_has_memory n _ (five_of values) e
    go false e = cc

-- a fault of the first line is that of the script
pub first_faults : (text : List ℕ) (n : ℕ) (words : List Word) (left : List (ℕ × List Word)) (f : ScriptError) → lines_left 1 text ≡ (n, words) ∷ left → first_line n words ≡ Err f → ScriptFault text f
unfolding script_of
first_faults text n words left f e x = go f x
  where
    all : script_of text ≡ with_events (first_line n words) (events_of left)
    all = ap (script_of_lines (length (lines_of text) + 1)) e

    go : (f : ScriptError) → first_line n words ≡ Err f → ScriptFault text f
    go fault.Memory x = absurd (first_line_has_memory n words x)
    go (fault.NoPairLine k) x = all ∙ ap (λ y. with_events y (events_of left)) x
    go (fault.UnknownEvent k) x = all ∙ ap (λ y. with_events y (events_of left)) x
    go (fault.WrongNumberOfWords k) x = all ∙ ap (λ y. with_events y (events_of left)) x
    go (fault.BadWord k) x = all ∙ ap (λ y. with_events y (events_of left)) x
