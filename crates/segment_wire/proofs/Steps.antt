-- Options are read one by one.
use Rattle.std.proofs.Common.{ℕ, suc, zero, ◌+◌, ◌-◌, ◌<◌, ◌≤◌, Bool, true, false, List, [], ◌∷◌, ◌≡◌, ◌≢◌, length, drop, get_or, refl, ap, sym, ◌∙◌, arith}
use Rattle.std.specs.Prelude.{Option, Some, None, nat_le, option_map, ◌==◌}
use Rattle.std.proofs.lemmas.Bool.Decides.{nat_tests}
use Rattle.std.proofs.lemmas.List.{drop-drop, drop_more, length-drop}
use Rattle.control_wire.specs.Source.{is_option}
use Rattle.control_wire.specs.Segment.{Segment}
use Rattle.segment_wire.specs.Options.{no_options, option_size, options_read, with_option}
use Rattle.segment_wire.specs.Tcp.{filled, segment_at, segment_if, with_options}
use Rattle.segment_wire.specs.declared.options.TcpOptions.{TcpOptions}

skipped : (n : ℕ) (o : TcpOptions) (xs : List ℕ) → n ≤ length xs → options_read n o xs ≡ options_read 0 o (drop n xs)
skipped zero o xs h = refl
skipped (suc n) o [] h = absurd (omega arith)
skipped (suc n) o (x ∷ xs) h = skipped n o xs (omega arith)

beyond : (n : ℕ) (o : TcpOptions) (xs : List ℕ) → length xs < n → options_read n o xs ≡ None
beyond zero o xs h = absurd (omega arith)
beyond (suc n) o [] h = refl
beyond (suc n) o (x ∷ xs) h = beyond n o xs (omega arith)

two_octets : (kind len : ℕ) → is_option kind len ≡ true → 2 ≤ len
two_octets kind len h = grind (arith, nat_tests)

pub record Steps (kind len : ℕ) (rest : List ℕ) (n : ℕ) (o : TcpOptions) : Type 0 where
  pub positive : 1 ≤ n
  pub within : n ≤ length rest + 2
  pub same : options_read 0 (with_option kind len rest o) (drop n (kind ∷ len ∷ rest)) ≡ options_read 0 o (kind ∷ len ∷ rest)

is_one : (kind : ℕ) → (kind == 1) ≡ true → kind ≡ 1
is_one kind h = grind (arith, nat_tests)

other_steps : (len : ℕ) (kind : ℕ) (rest : List ℕ) (o : TcpOptions) (k : ℕ) → len ≡ suc (suc k) → k ≤ length rest → options_read (len - 2) o rest ≡ options_read 0 o (drop len (kind ∷ len ∷ rest))
other_steps len kind rest o k e h =
    let m : len - 2 ≡ k = omega arith in
    ap (λ n. options_read n o rest) m ∙ skipped k o rest h ∙ sym (ap (λ n. options_read 0 o (drop n (kind ∷ len ∷ rest))) e)

one_step : (kind len : ℕ) (rest : List ℕ) (o : TcpOptions) → kind ≡ 1 → options_read 0 (with_option kind len rest o) (len ∷ rest) ≡ options_read 0 o (kind ∷ len ∷ rest)
one_step kind len rest o e = rw e refl

some_case : (kind len n : ℕ) (rest : List ℕ) (o : TcpOptions) → (kind == 0) ≡ false → (one i f : Bool) → (kind == 1) ≡ one → is_option kind len ≡ i → nat_le len (length rest + 2) ≡ f → option_size kind len rest ≡ Some n → Steps kind len rest n o
some_case kind len n rest o z true i f eo ei ef h =
    let g : Some 1 ≡ Some n = rw eo at h in
    let e : 1 ≡ n = cc in
    record { positive = omega arith; within = omega arith; same = ap (λ m. options_read 0 (with_option kind len rest o) (drop m (kind ∷ len ∷ rest))) (sym e) ∙ one_step kind len rest o (is_one kind eo) }
some_case kind len n rest o z false true true eo ei ef h =
    let g : Some len ≡ Some n = rw (eo, ei, ef) at h in
    let e : len ≡ n = cc in
    let two : 2 ≤ len = two_octets kind len ei in
    let fits : len ≤ length rest + 2 = grind (arith, nat_tests) in
    let k : len ≡ suc (suc (len - 2)) = omega arith in
    let w = with_option kind len rest o in
    let s : options_read (len - 2) w rest ≡ options_read 0 w (drop len (kind ∷ len ∷ rest)) = other_steps len kind rest w (len - 2) k (omega arith) in
    let row : options_read 0 o (kind ∷ len ∷ rest) ≡ options_read (len - 2) w rest = rw (z, eo, ei) refl in
    record { positive = omega arith; within = omega arith; same = sym (row ∙ s ∙ ap (λ m. options_read 0 w (drop m (kind ∷ len ∷ rest))) e) }
some_case kind len n rest o z false true false eo ei ef h =
    let g : None ≡ Some n = rw (eo, ei, ef) at h in
    absurd (cc)
some_case kind len n rest o z false false f eo ei ef h =
    let g : None ≡ Some n = rw (eo, ei) at h in
    absurd (cc)

none_case : (kind len : ℕ) (rest : List ℕ) (o : TcpOptions) → (kind == 0) ≡ false → (one i f : Bool) → (kind == 1) ≡ one → is_option kind len ≡ i → nat_le len (length rest + 2) ≡ f → option_size kind len rest ≡ None → options_read 0 o (kind ∷ len ∷ rest) ≡ None
none_case kind len rest o z true i f eo ei ef h =
    let g : ◌≡◌ {A = Option ℕ} (Some 1) None = rw eo at h in
    absurd (cc)
none_case kind len rest o z false true true eo ei ef h =
    let g : Some len ≡ None = rw (eo, ei, ef) at h in
    absurd (cc)
none_case kind len rest o z false true false eo ei ef h =
    let over : length rest + 2 < len = grind (arith, nat_tests) in
    rw (z, eo, ei) (beyond (len - 2) (with_option kind len rest o) rest (omega arith))
none_case kind len rest o z false false f eo ei ef h = rw (z, eo, ei) refl

not_zero : (kind : ℕ) → kind ≢ 0 → (kind == 0) ≡ false
not_zero kind h = grind (arith, nat_tests)

-- the two octets i a place, and those behind them
two_at : (xs : List ℕ) (i : ℕ) → i + 1 < length xs → drop i xs ≡ get_or xs i 0 ∷ get_or xs (i + 1) 0 ∷ drop (i + 2) xs
two_at xs i h =
    let a : i < length xs = omega arith in
    let e : (i + 1) + 1 ≡ i + 2 = omega arith in
    drop_more xs i 0 a ∙ ap (λ ys. get_or xs i 0 ∷ ys) (drop_more xs (i + 1) 0 h ∙ ap (λ j. get_or xs (i + 1) 0 ∷ drop j xs) e)

-- the same, where the octets behind them have a name
named_at : (xs : List ℕ) (i : ℕ) (rest : List ℕ) → rest ≡ drop (i + 2) xs → i + 1 < length xs → drop i xs ≡ get_or xs i 0 ∷ get_or xs (i + 1) 0 ∷ rest
named_at xs i rest b h = two_at xs i h ∙ ap (λ ys. get_or xs i 0 ∷ get_or xs (i + 1) 0 ∷ ys) (sym b)

pub record StepsAt (xs : List ℕ) (i n : ℕ) (o : TcpOptions) (rest : List ℕ) : Type 0 where
  pub positive : 1 ≤ n
  pub within : i + n ≤ length xs
  pub same : options_read 0 (with_option (get_or xs i 0) (get_or xs (i + 1) 0) rest o) (drop (i + n) xs) ≡ options_read 0 o (drop i xs)

pub steps_at : (xs : List ℕ) (i n : ℕ) (o : TcpOptions) (rest : List ℕ) → rest ≡ drop (i + 2) xs → i + 1 < length xs → get_or xs i 0 ≢ 0 → option_size (get_or xs i 0) (get_or xs (i + 1) 0) rest ≡ Some n → StepsAt xs i n o rest
steps_at xs i n o rest b h z e =
    let kind = get_or xs i 0 in
    let len = get_or xs (i + 1) 0 in
    let w = with_option kind len rest o in
    let s : Steps kind len rest n o = some_case kind len n rest o (not_zero kind z) _ _ _ refl refl refl e in
    let here : drop i xs ≡ kind ∷ len ∷ rest = named_at xs i rest b h in
    let size : length rest ≡ length (drop (i + 2) xs) = ap length b in
    record {
      positive = s.positive;
      within = omega (arith, s.within, size, length-drop (i + 2) xs);
      same = ap (options_read 0 w) (sym (drop-drop n i xs) ∙ ap (drop n) here) ∙ s.same ∙ ap (options_read 0 o) (sym here);
    }

pub none_at : (xs : List ℕ) (i : ℕ) (o : TcpOptions) (rest : List ℕ) → rest ≡ drop (i + 2) xs → i + 1 < length xs → get_or xs i 0 ≢ 0 → option_size (get_or xs i 0) (get_or xs (i + 1) 0) rest ≡ None → options_read 0 o (drop i xs) ≡ None
none_at xs i o rest b h z e =
    let kind = get_or xs i 0 in
    let len = get_or xs (i + 1) 0 in
    ap (options_read 0 o) (named_at xs i rest b h) ∙ none_case kind len rest o (not_zero kind z) _ _ _ refl refl refl e

-- an END
pub ended_at : (xs : List ℕ) (i : ℕ) (o : TcpOptions) → i + 1 < length xs → get_or xs i 0 ≡ 0 → options_read 0 o (drop i xs) ≡ Some o
ended_at xs i o h z = ap (options_read 0 o) (two_at xs i h) ∙ zero_case (get_or xs i 0) (get_or xs (i + 1) 0) (drop (i + 2) xs) o z
  where
    zero_case : (kind len : ℕ) (rest : List ℕ) (o : TcpOptions) → kind ≡ 0 → options_read 0 o (kind ∷ len ∷ rest) ≡ Some o
    zero_case kind len rest o e = rw e refl

-- a segment that was filled without options, where there are none, and where there may be some
pub bare_filled : (octets xs : List ℕ) (s : Segment) → s ≡ segment_at octets no_options → length xs ≡ 0 → filled true s ≡ segment_if octets (options_read 0 no_options xs)
bare_filled octets [] s is h = ap (λ t. Some t) is
bare_filled octets (x ∷ xs) s is h = absurd (omega arith)

pub options_filled : (octets : List ℕ) (o : Option TcpOptions) (s : Segment) → s ≡ segment_at octets no_options → option_map (with_options s) o ≡ segment_if octets o
options_filled octets None s is = refl
options_filled octets (Some o) s is = ap (λ t. Some (with_options t o)) is
