-- Options are stepped over one by one.
use Rattle.std.proofs.Common.{ℕ, suc, zero, ◌+◌, ◌-◌, ◌<◌, ◌≤◌, Bool, true, false, List, [], ◌∷◌, ◌≡◌, ◌≢◌, length, drop, get_or, refl, ap, sym, ◌∙◌, arith}
use Rattle.std.specs.Prelude.{Option, Some, None, nat_le, ◌==◌}
use Rattle.std.proofs.lemmas.Bool.Decides.{nat_tests}
use Rattle.std.proofs.lemmas.List.{drop-drop, drop_more, length-drop}
use Rattle.control_wire.specs.Source.{is_option, option_len, options_after}

-- an option's octets are stepped over, where they are there
skipped : (n : ℕ) (xs : List ℕ) → n ≤ length xs → options_after n xs ≡ options_after 0 (drop n xs)
skipped zero xs h = refl
skipped (suc n) [] h = absurd (omega arith)
skipped (suc n) (x ∷ xs) h = skipped n xs (omega arith)

beyond : (n : ℕ) (xs : List ℕ) → length xs < n → options_after n xs ≡ false
beyond zero xs h = absurd (omega arith)
beyond (suc n) [] h = refl
beyond (suc n) (x ∷ xs) h = beyond n xs (omega arith)

two_octets : (kind len : ℕ) → is_option kind len ≡ true → 2 ≤ len
two_octets kind len h = grind (arith, nat_tests)

pub record Steps (kind len : ℕ) (rest : List ℕ) (n : ℕ) : Type 0 where
  pub positive : 1 ≤ n
  pub within : n ≤ length (kind ∷ len ∷ rest)
  pub same : options_after 0 (kind ∷ len ∷ rest) ≡ options_after 0 (drop n (kind ∷ len ∷ rest))

other_steps : (kind len : ℕ) (rest : List ℕ) (k : ℕ) → len ≡ suc (suc k) → k ≤ length rest → options_after (len - 2) rest ≡ options_after 0 (drop len (kind ∷ len ∷ rest))
other_steps kind len rest k e h =
    let m : len - 2 ≡ k = omega arith in
    ap (λ n. options_after n rest) m ∙ skipped k rest h ∙ sym (ap (λ n. options_after 0 (drop n (kind ∷ len ∷ rest))) e)

some_case : (kind len n : ℕ) (rest : List ℕ) → (kind == 0) ≡ false → (o i f : Bool) → (kind == 1) ≡ o → is_option kind len ≡ i → nat_le len (length (kind ∷ len ∷ rest)) ≡ f → option_len kind len (length (kind ∷ len ∷ rest)) ≡ Some n → Steps kind len rest n
some_case kind len n rest z true i f eo ei ef h =
    let g : Some 1 ≡ Some n = rw eo at h in
    let e : 1 ≡ n = cc in
    record { positive = omega arith; within = omega arith; same = rw (z, eo, ← e) refl }
some_case kind len n rest z false true true eo ei ef h =
    let g : Some len ≡ Some n = rw (eo, ei, ef) at h in
    let e : len ≡ n = cc in
    let two : 2 ≤ len = two_octets kind len ei in
    let fits : len ≤ length (kind ∷ len ∷ rest) = grind (arith, nat_tests) in
    let k : len ≡ suc (suc (len - 2)) = omega arith in
    let s : options_after (len - 2) rest ≡ options_after 0 (drop len (kind ∷ len ∷ rest)) = other_steps kind len rest (len - 2) k (omega arith) in
    record { positive = omega arith; within = omega arith; same = rw (z, eo, ei) (s ∙ ap (λ m. options_after 0 (drop m (kind ∷ len ∷ rest))) e) }
some_case kind len n rest z false true false eo ei ef h =
    let g : None ≡ Some n = rw (eo, ei, ef) at h in
    absurd (cc)
some_case kind len n rest z false false f eo ei ef h =
    let g : None ≡ Some n = rw (eo, ei) at h in
    absurd (cc)

none_case : (kind len : ℕ) (rest : List ℕ) → (kind == 0) ≡ false → (o i f : Bool) → (kind == 1) ≡ o → is_option kind len ≡ i → nat_le len (length (kind ∷ len ∷ rest)) ≡ f → option_len kind len (length (kind ∷ len ∷ rest)) ≡ None → options_after 0 (kind ∷ len ∷ rest) ≡ false
none_case kind len rest z true i f eo ei ef h =
    let g : ◌≡◌ {A = Option ℕ} (Some 1) None = rw eo at h in
    absurd (cc)
none_case kind len rest z false true true eo ei ef h =
    let g : Some len ≡ None = rw (eo, ei, ef) at h in
    absurd (cc)
none_case kind len rest z false true false eo ei ef h =
    let over : length (kind ∷ len ∷ rest) < len = grind (arith, nat_tests) in
    rw (z, eo, ei) (beyond (len - 2) rest (omega arith))
none_case kind len rest z false false f eo ei ef h = rw (z, eo, ei) refl

not_zero : (kind : ℕ) → kind ≢ 0 → (kind == 0) ≡ false
not_zero kind h = grind (arith, nat_tests)

-- the two octets i a place, and those behind them
two_at : (xs : List ℕ) (i : ℕ) → i + 1 < length xs → drop i xs ≡ get_or xs i 0 ∷ get_or xs (i + 1) 0 ∷ drop (i + 2) xs
two_at xs i h =
    let a : i < length xs = omega arith in
    let e : (i + 1) + 1 ≡ i + 2 = omega arith in
    drop_more xs i 0 a ∙ ap (λ ys. get_or xs i 0 ∷ ys) (drop_more xs (i + 1) 0 h ∙ ap (λ j. get_or xs (i + 1) 0 ∷ drop j xs) e)

left : (xs : List ℕ) (i : ℕ) → i + 1 < length xs → length xs - i ≡ length (get_or xs i 0 ∷ get_or xs (i + 1) 0 ∷ drop (i + 2) xs)
left xs i h = omega (arith, length-drop (i + 2) xs)

pub record StepsAt (xs : List ℕ) (i n : ℕ) : Type 0 where
  pub positive : 1 ≤ n
  pub within : i + n ≤ length xs
  pub same : options_after 0 (drop (i + n) xs) ≡ options_after 0 (drop i xs)

pub steps_at : (xs : List ℕ) (i n : ℕ) → i + 1 < length xs → get_or xs i 0 ≢ 0 → option_len (get_or xs i 0) (get_or xs (i + 1) 0) (length xs - i) ≡ Some n → StepsAt xs i n
steps_at xs i n h z e =
    let kind = get_or xs i 0 in
    let len = get_or xs (i + 1) 0 in
    let rest = drop (i + 2) xs in
    let e' : option_len kind len (length (kind ∷ len ∷ rest)) ≡ Some n = ap (option_len kind len) (sym (left xs i h)) ∙ e in
    let s : Steps kind len rest n = some_case kind len n rest (not_zero kind z) _ _ _ refl refl refl e' in
    let here : drop i xs ≡ kind ∷ len ∷ rest = two_at xs i h in
    let room : length xs - i ≡ length (kind ∷ len ∷ rest) = left xs i h in
    record {
      positive = s.positive;
      within = omega (arith, s.within, room);
      same = ap (options_after 0) (sym (drop-drop n i xs) ∙ ap (drop n) here) ∙ sym s.same ∙ ap (options_after 0) (sym here);
    }

pub none_at : (xs : List ℕ) (i : ℕ) → i + 1 < length xs → get_or xs i 0 ≢ 0 → option_len (get_or xs i 0) (get_or xs (i + 1) 0) (length xs - i) ≡ None → options_after 0 (drop i xs) ≡ false
none_at xs i h z e =
    let kind = get_or xs i 0 in
    let len = get_or xs (i + 1) 0 in
    let rest = drop (i + 2) xs in
    let e' : option_len kind len (length (kind ∷ len ∷ rest)) ≡ None = ap (option_len kind len) (sym (left xs i h)) ∙ e in
    ap (options_after 0) (two_at xs i h) ∙ none_case kind len rest (not_zero kind z) _ _ _ refl refl refl e'
