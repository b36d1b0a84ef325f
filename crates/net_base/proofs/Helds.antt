-- What joins the queue, and what stays held.
use Rattle.std.proofs.Common.{◌≡◌, ℕ, zero, suc, ◌+◌, ◌-◌, ◌<◌, ◌≤◌, Bool, true, false, cond, ◌||◌, List, [], ◌∷◌, ◌++◌, length, take, drop, slice_get, None, refl, sym, ap, ◌∙◌, inl, inr, arith, length-append, length-drop, length-take}
use Rattle.std.proofs.lemmas.Bool.{cases_lt}
use Rattle.std.proofs.lemmas.Bool.Decides.{nat_tests}
use Rattle.net_base.specs.declared.assembler.Range.{Range}
use Rattle.net_base.specs.Ranges.{is_within, is_held, is_refused, run_after, ranges_after, Adds}
use Rattle.net_base.specs.Ring.{overwrite}
use Rattle.net_base.specs.Held.{held_at, replaced, IsKept, Joins}
use Rattle.net_base.proofs.Sets.{adds_set}

get_past : (xs : List ℕ) (k : ℕ) → length xs ≤ k → slice_get xs k ≡ None
get_past [] k h = refl
get_past (x ∷ xs) zero h = absurd (omega arith)
get_past (x ∷ xs) (suc k) h = get_past xs k (omega arith)

get_take : (xs : List ℕ) (n k : ℕ) → k < n → slice_get (take n xs) k ≡ slice_get xs k
get_take xs zero k h = absurd (omega arith)
get_take [] (suc n) k h = refl
get_take (x ∷ xs) (suc n) zero h = refl
get_take (x ∷ xs) (suc n) (suc k) h = get_take xs n k (omega arith)

get_drop : (xs : List ℕ) (n k : ℕ) → slice_get (drop n xs) k ≡ slice_get xs (n + k)
get_drop xs zero k = ap (slice_get xs) {x = k} {y = 0 + k} (omega arith)
get_drop [] (suc n) k = refl
get_drop (x ∷ xs) (suc n) k = get_drop xs n k ∙ ap (slice_get (x ∷ xs)) {x = suc (n + k)} {y = suc n + k} (omega arith)

get_left : (xs ys : List ℕ) (k : ℕ) → k < length xs → slice_get (xs ++ ys) k ≡ slice_get xs k
get_left [] ys k h = absurd (omega arith)
get_left (x ∷ xs) ys zero h = refl
get_left (x ∷ xs) ys (suc k) h = get_left xs ys k (omega arith)

get_right : (xs ys : List ℕ) (k : ℕ) → length xs ≤ k → slice_get (xs ++ ys) k ≡ slice_get ys (k - length xs)
get_right [] ys k h = ap (slice_get ys) (omega arith)
get_right (x ∷ xs) ys zero h = absurd (omega arith)
get_right (x ∷ xs) ys (suc k) h = get_right xs ys k (omega arith) ∙ ap (slice_get ys) (omega arith)

-- what stands in the spare places after a write
get_inside : (xs ys : List ℕ) (o k : ℕ) → o + length ys ≤ length xs → is_within o (o + length ys) k ≡ true → slice_get (overwrite xs o ys) k ≡ slice_get ys (k - o)
get_inside xs ys o k fits inside =
    let lo : o ≤ k = grind (arith, nat_tests) in
    let hi : k < o + length ys = grind (arith, nat_tests) in
    let front : length (take o xs) ≡ o = omega (arith, length-take o xs) in
    get_right (take o xs) (ys ++ drop (o + length ys) xs) k (omega (arith, front))
    ∙ get_left ys (drop (o + length ys) xs) (k - length (take o xs)) (omega (arith, front))
    ∙ ap (slice_get ys) (omega (arith, front))

get_outside : (xs ys : List ℕ) (o k : ℕ) → o + length ys ≤ length xs → is_within o (o + length ys) k ≡ false → slice_get (overwrite xs o ys) k ≡ slice_get xs k
get_outside xs ys o k fits out =
    let front : length (take o xs) ≡ o = omega (arith, length-take o xs) in
    elim (cases_lt k o) [
      | inl low ↦ get_left (take o xs) (ys ++ drop (o + length ys) xs) k (omega (arith, front)) ∙ get_take xs o k low
      | inr high ↦
          let far : o + length ys ≤ k = grind (arith, nat_tests) in
          get_right (take o xs) (ys ++ drop (o + length ys) xs) k (omega (arith, front))
          ∙ get_right ys (drop (o + length ys) xs) (k - length (take o xs)) (omega (arith, front))
          ∙ get_drop xs (o + length ys) (k - length (take o xs) - length ys)
          ∙ ap (slice_get xs) (omega (arith, front))
    ]

length-overwrite : (xs ys : List ℕ) (o : ℕ) → o + length ys ≤ length xs → length (overwrite xs o ys) ≡ length xs
length-overwrite xs ys o fits = omega (arith, length-append (take o xs) (ys ++ drop (o + length ys) xs), length-append ys (drop (o + length ys) xs), length-take o xs, length-drop (o + length ys) xs)

module _ (rs : List Range) (spare ys : List ℕ) (o : ℕ) (kept : IsKept rs (length spare)) (some : 0 < length ys) (fits : o + length ys ≤ length spare) (run : ℕ) (after : List Range) (adds : Adds o (length ys) rs run after) where
  -- what is held or comes stands in the spare places after the write, and nothing else is held
  stands : (k : ℕ) (b : Bool) → (is_within o (o + length ys) k || is_held rs k) ≡ b → cond b (slice_get (overwrite spare o ys) k) None ≡ replaced (held_at rs spare) o ys k
  stands k b e = by (is_within o (o + length ys) k) refl (is_held rs k) refl b e
    where
      by : (p : Bool) → is_within o (o + length ys) k ≡ p → (q : Bool) → is_held rs k ≡ q → (b : Bool) → (is_within o (o + length ys) k || is_held rs k) ≡ b → cond b (slice_get (overwrite spare o ys) k) None ≡ replaced (held_at rs spare) o ys k
      by true p q h b e = ap (λ t. cond t (slice_get (overwrite spare o ys) k) None) (sym e ∙ ap (λ t. t || is_held rs k) p) ∙ get_inside spare ys o k fits p ∙ ap (λ t. cond t (slice_get ys (k - o)) (held_at rs spare k)) (sym p)
      by false p q h b e =
          ap (λ t. cond t (slice_get (overwrite spare o ys) k) None) (sym e ∙ ap (λ t. t || is_held rs k) p)
          ∙ ap (λ x. cond (is_held rs k) x None) (get_outside spare ys o k fits p)
          ∙ ap (λ t. cond t (slice_get ys (k - o)) (held_at rs spare k)) (sym p)

  below : (k : ℕ) → (is_within o (o + length ys) k || is_held rs k) ≡ true → k < length spare
  below k e = by (is_within o (o + length ys) k) refl
    where
      by : (p : Bool) → is_within o (o + length ys) k ≡ p → k < length spare
      by true p = grind (arith, nat_tests)
      by false p = kept.within k (ap (λ t. t || is_held rs k) (sym p) ∙ e)

  run_fits : (n : ℕ) → n ≡ run → n ≤ length spare
  run_fits zero e = omega arith
  run_fits (suc n) e = let b : n < length spare = below n (adds.joined n (omega (arith, e))) in omega (arith, b)

  pub joins_held : Joins rs spare o ys run after (drop run (overwrite spare o ys))
  joins_held =
      let long = length-overwrite spare ys o fits in
      let left : length (drop run (overwrite spare o ys)) ≡ length spare - run = length-drop run (overwrite spare o ys) ∙ ap (λ n. n - run) long in
      record {
        fits = run_fits run refl;
        kept = record { tidy = adds.tidy; within = λ k h. omega (arith, left, below (run + k) (sym (adds.others k) ∙ h)) };
        joined = λ k low. get_take (overwrite spare o ys) run k low ∙ stands k true (adds.joined k low);
        stops = sym (stands run false adds.stops);
        others = λ k. (λ i. cond (adds.others k i) (get_drop (overwrite spare o ys) run k i) None) ∙ stands (run + k) (is_within o (o + length ys) (run + k) || is_held rs (run + k)) refl;
      }

pub joins_all : (rs : List Range) (spare ys : List ℕ) (o : ℕ) → IsKept rs (length spare) → 0 < length ys → o + length ys ≤ length spare → is_refused o (length ys) rs ≡ false
    → Joins rs spare o ys (run_after o (length ys) rs) (ranges_after o (length ys) rs) (drop (run_after o (length ys) rs) (overwrite spare o ys))
joins_all rs spare ys o kept some fits ok = joins_held rs spare ys o kept some fits (run_after o (length ys) rs) (ranges_after o (length ys) rs) (adds_set (length ys) rs kept.tidy some o ok)
