-- What is seen of sixteen bytes at a time, and the text from there on.
use Rattle.std.proofs.Common.{◌≡◌, ℕ, ◌+◌, ◌<◌, ◌≤◌, ◌^◌, ◌%◌, ◌*◌, zero, suc, ap₂, eqb, cond, Bool, true, false, not, ◌&&◌, List, [], ◌∷◌, map, length, drop, Fits, w8, refl, sym, ap, ◌∙◌, arith}
use Rattle.std.proofs.lemmas.Bool.{agree_below, agree_below_at, ne_eqb, eq-eqb, cond-true, cond-false}
use Rattle.std.proofs.lemmas.List.{length-map}
use Rattle.std.proofs.lemmas.List.Folds.{list_all-append, prefix_len-append}
use Rattle.std.proofs.lemmas.List.Sums.{prefix_len-le-length}
use Rattle.std.proofs.lemmas.Simd.{chunk-drop, length-chunk, map-map, mask_l-mod}
use Rattle.std.specs.List.{list_all, position_or_len}
use lib.Lanes.{Each1, chunk, mask_l, top}

-- no bit is set where no lane stops
pub clear : (p : ℕ → Bool) (xs : List ℕ) → eqb (mask_l (map p xs)) 0 ≡ list_all (λ x. not (p x)) xs
clear p [] = refl
clear p (x ∷ xs) = go (p x) (mask_l (map p xs)) (list_all (λ y. not (p y)) xs) (clear p xs)
  where
    go : (b : Bool) (m : ℕ) (t : Bool) → eqb m 0 ≡ t → eqb (cond b 1 0 + 2 * m) 0 ≡ (not b && t)
    go true m t e = ne_eqb (1 + 2 * m) 0 (omega arith)
    go false zero t e = e
    go false (suc m) t e = ne_eqb (0 + 2 * suc m) 0 (omega arith) ∙ sym (ne_eqb (suc m) 0 (omega arith)) ∙ e

-- tests that agree at every byte agree on bytes
pub same_all : (p q : ℕ → Bool) (xs : List ℕ) → agree_below p q 256 ≡ true → Each1 (Fits w8) xs → list_all p xs ≡ list_all q xs
same_all p q [] agree fits = refl
same_all p q (x ∷ xs) agree fits = ap₂ (λ a b. a && b) (agree_below_at p q 256 x agree fits.0.fits) (same_all p q xs agree fits.1)

-- whether no lane stops of a vector that was computed from a load lane by lane
pub none_stops : (f : ℕ → ℕ) (q : ℕ → Bool) (z v : List ℕ) → length v ≡ 16 → z ≡ map f v → agree_below (λ x. not (top 7 (f x))) q 256 ≡ true → Each1 (Fits w8) v → eqb (mask_l (map (top 7) z) % 2 ^ 64) 0 ≡ list_all q v
none_stops f q z v long is agree fits =
    ap (λ l. eqb (mask_l (map (top 7) l) % 2 ^ 64) 0) is ∙ ap (λ l. eqb (mask_l l % 2 ^ 64) 0) (map-map (top 7) f v)
    ∙ ap (λ n. eqb n 0) (mask_l-mod (map (λ x. top 7 (f x)) v) 64 (omega (arith, length-map v (λ x. top 7 (f x)), long)))
    ∙ clear (λ x. top 7 (f x)) v ∙ same_all (λ x. not (top 7 (f x))) q v agree fits

module _ (p : ℕ → Bool) (xs : List ℕ) (i r : ℕ) (room : i + 16 ≤ length xs) (is : r ≡ position_or_len p (chunk i 16 xs)) where
  long : length (chunk i 16 xs) ≡ 16
  long = length-chunk i 16 xs room

  here : position_or_len p (drop i xs) ≡ cond (eqb r 16) (16 + position_or_len p (drop (i + 16) xs)) r
  here =
      ap (position_or_len p) (chunk-drop i 16 xs) ∙ prefix_len-append (λ x. not (p x)) (chunk i 16 xs) (drop (i + 16) xs)
      ∙ rw (← is, long) refl

  -- the first is one of the sixteen
  pub found : position_or_len p xs ≡ i + position_or_len p (drop i xs) → r < 16 → i + r ≡ position_or_len p xs
  found before less = sym (before ∙ ap (λ n. i + n) (here ∙ cond-false _ _ _ (ne_eqb r 16 (omega (arith, less)))))

  -- none is
  pub passed : position_or_len p xs ≡ i + position_or_len p (drop i xs) → 16 ≤ r → position_or_len p xs ≡ i + 16 + position_or_len p (drop (i + 16) xs)
  passed before more =
      let whole : r ≡ 16 = omega (arith, more, is, long, prefix_len-le-length (λ x. not (p x)) (chunk i 16 xs)) in
      let on : position_or_len p (drop i xs) ≡ 16 + position_or_len p (drop (i + 16) xs) = here ∙ cond-true _ _ _ (eq-eqb r 16 whole) in
      omega (arith, before, on)

-- sixteen bytes that do not all pass
pub all_fails : (p : ℕ → Bool) (xs : List ℕ) (i : ℕ) → list_all p xs ≡ list_all p (drop i xs) → list_all p (chunk i 16 xs) ≡ false → false ≡ list_all p xs
all_fails p xs i before fails =
    sym (before ∙ ap (list_all p) (chunk-drop i 16 xs) ∙ list_all-append p (chunk i 16 xs) (drop (i + 16) xs) ∙ ap (λ b. b && list_all p (drop (i + 16) xs)) fails)

-- sixteen that do
pub all_passed : (p : ℕ → Bool) (xs : List ℕ) (i : ℕ) → list_all p xs ≡ list_all p (drop i xs) → list_all p (chunk i 16 xs) ≡ true → list_all p xs ≡ list_all p (drop (i + 16) xs)
all_passed p xs i before pass =
    before ∙ ap (list_all p) (chunk-drop i 16 xs) ∙ list_all-append p (chunk i 16 xs) (drop (i + 16) xs) ∙ ap (λ b. b && list_all p (drop (i + 16) xs)) pass
