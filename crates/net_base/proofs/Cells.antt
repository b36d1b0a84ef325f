-- Lemmas about the places of a ring, counted around the end.
use Rattle.std.proofs.Common.{◌≡◌, ℕ, suc, ◌+◌, ◌-◌, ◌<◌, ◌≤◌, Bool, true, false, cond, List, [], ◌∷◌, ◌++◌, length, get_or, take, drop, set, min, sym, ap, ap₂, subst, length-take, ◌∙◌, inl, inr, refl, arith, length-append, length-drop, length-take-le}
use Rattle.std.specs.Prelude.{◌==◌}
use Rattle.std.proofs.lemmas.List.{same_lists, set_split, get_or-drop, get_or-take, get_or_append_left, get_or-append_right, places, drop-drop, take-append-drop, append-nil}
use Rattle.std.proofs.lemmas.Bool.{cases_lt, lt-ltb, le-ltb}
use Rattle.std.proofs.lemmas.Bool.Decides.{nat_tests}
use borrow.Rule.Slice.PartMut.{put_mid}
use Rattle.net_base.specs.Ring.{Ring, ring, ring_of, empty_ring, cells_from, overwrite, capacity_of, EnqueuesWith, LeavesRun}
use Rattle.net_base.specs.Ring.{in_one_piece, end_after, end_anew, spare_anew, queue_piece, spare_piece, restarted, shortened, emptied}

-- ---- places in one piece

pub piece_within : (e n o : ℕ) → in_one_piece e n o ≤ n - o
unfolding in_one_piece
piece_within e n o = elim (cases_lt o e) [
  | inl near ↦ let is = ap (λ (b : Bool). cond b (min n e) n - o) (lt-ltb o e near) in omega (arith, is)
  | inr far ↦ let is = ap (λ (b : Bool). cond b (min n e) n - o) (le-ltb o e far) in omega (arith, is)
]

-- no place is lent only where none is there
pub piece_none : (e n o : ℕ) → in_one_piece e n o ≡ 0 → n ≤ o
unfolding in_one_piece
piece_none e n o none = elim (cases_lt o e) [
  | inl near ↦ let is = ap (λ (b : Bool). cond b (min n e) n - o) (lt-ltb o e near) in omega (arith, is, none, near)
  | inr far ↦ let is = ap (λ (b : Bool). cond b (min n e) n - o) (le-ltb o e far) in omega (arith, is, none)
]

-- m places, of which the queue's first is k and the one o places on is p
module _ (m k o p : ℕ) (k_within : k ≤ m) (low : k + o < m → p ≡ k + o) (high : m ≤ k + o → p + m ≡ k + o) where
  pub piece_is : (n : ℕ) → n ≤ m → min (n - o) (m - p) ≡ in_one_piece (m - k) n o
  unfolding in_one_piece
  piece_is n within = elim (cases_lt o (m - k)) [
    | inl near ↦
        let is = ap (λ (b : Bool). cond b (min n (m - k)) n - o) (lt-ltb o (m - k) near) in
        let e = low (omega (arith, near)) in
        omega (arith, is, e, near, within)
    | inr far ↦
        let is = ap (λ (b : Bool). cond b (min n (m - k)) n - o) (le-ltb o (m - k) far) in
        let e = high (omega (arith, far, k_within)) in
        omega (arith, is, e, far, within, k_within)
  ]

  pub end_is : (m' : ℕ) → o ≤ m → m' ≡ m → m - p ≡ end_after (m - k) o m'
  unfolding end_after
  end_is m' within same = elim (cases_lt o (m - k)) [
    | inl near ↦
        let is = ap (λ (b : Bool). cond b (m - k - o) (m - k + m' - o)) (lt-ltb o (m - k) near) in
        let e = low (omega (arith, near)) in
        omega (arith, is, e, near)
    | inr far ↦
        let is = ap (λ (b : Bool). cond b (m - k - o) (m - k + m' - o)) (le-ltb o (m - k) far) in
        let e = high (omega (arith, far, k_within)) in
        omega (arith, is, e, far, within, same, k_within)
  ]

module _ {X : Type 0} where
  pub length-cells : (k : ℕ) (xs : List X) → k ≤ length xs → length (cells_from k xs) ≡ length xs
  length-cells k xs within = simp (length-append, length-drop) (omega (arith, length-take-le k xs within))

  pub length_around : (k : ℕ) (xs : List X) → length (cells_from k xs) ≡ length xs
  length_around k xs = simp (length-append, length-drop, length-take) (omega arith)

  length-overwrite : (xs : List X) (o : ℕ) (ys : List X) → o + length ys ≤ length xs → length (overwrite xs o ys) ≡ length xs
  length-overwrite xs o ys fits = simp (length-append, length-drop, length-take) (omega (arith, fits))

  pub length_anew : (e : ℕ) (q s : List X) → length (spare_anew e q s) ≡ length s
  unfolding spare_anew
  length_anew e q s = go (length q == 0)
    where
      go : (b : Bool) → length (cond b (cells_from e s) s) ≡ length s
      go true = length_around e s
      go false = refl

  ring_is : {q q' s s' : List X} {e e' : ℕ} → q ≡ q' → s ≡ s' → e ≡ e' → ring q s e ≡ ring q' s' e'
  ring_is a b c = λ i. ring (a i) (b i) (c i)

  pub new_ring : (xs : List X) → ring_of 0 0 xs ≡ empty_ring xs
  new_ring xs = ring_is refl (append-nil xs) (omega arith)

  -- item i is place k + i, before the end or past it
  pub get_or-cells_low : (k : ℕ) (xs : List X) (i : ℕ) (d : X) → k + i < length xs → get_or (cells_from k xs) i d ≡ get_or xs (k + i) d
  get_or-cells_low k xs i d low =
      let length_tail = length-drop k xs in
      get_or_append_left _ _ d i (omega arith) ∙ get_or-drop k xs i d

  pub get_or-cells_high : (k : ℕ) (xs : List X) (i j : ℕ) (d : X) → j + length xs ≡ k + i → j < k → k ≤ length xs → get_or (cells_from k xs) i d ≡ get_or xs j d
  get_or-cells_high k xs i j d high below within =
      let length_tail = length-drop k xs in
      get_or-append_right _ _ (length xs - k) i d length_tail (omega arith) ∙ get_or-take k xs _ d (omega arith) ∙ ap (λ j. get_or xs j d) (omega arith)

  -- places from n further on are the first n moved to the end
  pub cells_more_low : (k n : ℕ) (xs : List X) → k + n ≤ length xs → cells_from (k + n) xs ≡ drop n (cells_from k xs) ++ take n (cells_from k xs)
  cells_more_low k n xs within = same_lists _ _ (grind (arith, places)) (λ i d h. grind (arith, places))

  pub cells_more_high : (k n p : ℕ) (xs : List X) → k ≤ length xs → n ≤ length xs → p + length xs ≡ k + n → cells_from p xs ≡ drop n (cells_from k xs) ++ take n (cells_from k xs)
  cells_more_high k n p xs k_within n_within wraps = same_lists _ _ (grind (arith, places)) (λ i d h. grind (arith, places))

  pub cells_more : (k n p : ℕ) (xs : List X) → k ≤ length xs → n ≤ length xs → (k + n < length xs → p ≡ k + n) → (length xs ≤ k + n → p + length xs ≡ k + n) → cells_from p xs ≡ drop n (cells_from k xs) ++ take n (cells_from k xs)
  cells_more k n p xs k_within n_within low high = elim (cases_lt (k + n) (length xs)) [
    | inl is_low ↦ ap (λ j. cells_from j xs) (low is_low) ∙ cells_more_low k n xs (omega arith)
    | inr is_high ↦ cells_more_high k n p xs k_within n_within (high is_high)
  ]

  -- taking c items from the front moves their places behind the spare ones
  pub queue_dequeued : (n c : ℕ) (cs : List X) → c ≤ n → n ≤ length cs → take (n - c) (drop c cs ++ take c cs) ≡ drop c (take n cs)
  queue_dequeued n c cs within fits = same_lists _ _ (grind (arith, places)) (λ i d h. grind (arith, places))

  spare_dequeued : (n c : ℕ) (cs : List X) → c ≤ n → n ≤ length cs → drop (n - c) (drop c cs ++ take c cs) ≡ drop n cs ++ take c (take n cs)
  spare_dequeued n c cs within fits = same_lists _ _ (grind (arith, places)) (λ i d h. grind (arith, places))

  queue_enqueued : (n c : ℕ) (cs : List X) → n + c ≤ length cs → take (n + c) cs ≡ take n cs ++ take c (drop n cs)
  queue_enqueued n c cs fits = same_lists _ _ (grind (arith, places)) (λ i d h. grind (arith, places))

  all_places : (k n : ℕ) (xs : List X) (r : Ring X) → ring_of k n xs ≡ r → r.queue ++ r.spare ≡ cells_from k xs
  all_places k n xs r is = ap (λ (r : Ring X). r.queue ++ r.spare) (sym is) ∙ take-append-drop n (cells_from k xs)

  capacity_is : (k n : ℕ) (xs : List X) (r : Ring X) → ring_of k n xs ≡ r → capacity_of r ≡ length xs
  capacity_is k n xs r is = sym (length-append r.queue r.spare) ∙ ap (λ (l : List X). length l) (all_places k n xs r is) ∙ length_around k xs

  -- the slice of a ring has as many places as the ring
  pub storage_is : (k n : ℕ) (xs : List X) (r : Ring X) → ring_of k n xs ≡ r → length xs ≡ capacity_of r
  storage_is k n xs r is = sym (capacity_is k n xs r is)

  pub length-queue : (k n : ℕ) (xs : List X) (r : Ring X) → ring_of k n xs ≡ r → k ≤ length xs → n ≤ length xs → length r.queue ≡ n
  length-queue k n xs r is k_within n_within =
      let len = length-cells k xs k_within in
      ap (λ (r : Ring X). length r.queue) (sym is) ∙ length-take-le n _ (omega arith)

  pub length-spare : (k n : ℕ) (xs : List X) (r : Ring X) → ring_of k n xs ≡ r → k ≤ length xs → length r.spare ≡ length xs - n
  length-spare k n xs r is k_within =
      let len = length-cells k xs k_within in
      ap (λ (r : Ring X). length r.spare) (sym is) ∙ length-drop n _ ∙ ap (λ m. m - n) len

  pub spare_fits : (k n c : ℕ) (xs : List X) (r : Ring X) → ring_of k n xs ≡ r → (k ≤ length xs) × (n ≤ length xs) → c ≤ length r.spare → n + c ≤ length xs
  spare_fits k n c xs r is inv within = omega (arith, length-spare k n xs r is inv.0, inv.1)

  pub dequeued : (k n c p : ℕ) (xs : List X) (r : Ring X) → ring_of k n xs ≡ r → (k ≤ length xs) × (n ≤ length xs) → c ≤ length r.queue
      → (k + c < length xs → p ≡ k + c) → (length xs ≤ k + c → p + length xs ≡ k + c)
      → ring_of p (n - c) xs ≡ shortened r c
  dequeued k n c p xs r is inv within low high =
      let len = length-cells k xs inv.0 in
      let len_queue = length-queue k n xs r is inv.0 inv.1 in
      let few : c ≤ n = omega arith in
      let fits : n ≤ length (cells_from k xs) = omega arith in
      let cells = cells_more k c p xs inv.0 (omega arith) low high in
      ring_is (ap (λ (cs : List X). take (n - c) cs) cells ∙ queue_dequeued n c (cells_from k xs) few fits) (ap (λ (cs : List X). drop (n - c) cs) cells ∙ spare_dequeued n c (cells_from k xs) few fits)
      (end_is (length xs) k c p inv.0 low high _ (omega arith) (capacity_is k n xs (ring_of k n xs) refl))
      ∙ ap (λ (r : Ring X). shortened r c) is

  pub enqueued : (k n c : ℕ) (xs : List X) (r : Ring X) → ring_of k n xs ≡ r → (k ≤ length xs) × (n ≤ length xs) → c ≤ length r.spare
      → ring_of k (n + c) xs ≡ ring (r.queue ++ take c r.spare) (drop c r.spare) r.until_end
  enqueued k n c xs r is inv within =
      let len = length-cells k xs inv.0 in
      let len_spare = length-spare k n xs r is inv.0 in
      ring_is (queue_enqueued n c (cells_from k xs) (omega arith)) (sym (drop-drop c n (cells_from k xs))) refl
      ∙ ap (λ (r : Ring X). ring (r.queue ++ take c r.spare) (drop c r.spare) r.until_end) is

  -- the places from p on, where p is o places on from k: a write within the end, and one around it
  module _ (k o p : ℕ) (xs : List X) (k_within : k ≤ length xs) (low : k + o < length xs → p ≡ k + o) (high : length xs ≤ k + o → p + length xs ≡ k + o) where
    pub written_in_run : (ys : List X) → o + length ys ≤ length xs → p + length ys ≤ length xs → cells_from k (overwrite xs p ys) ≡ overwrite (cells_from k xs) o ys
    written_in_run ys fits in_run = elim (cases_lt (k + o) (length xs)) [
      | inl is_low ↦ let e = low is_low in same_lists _ _ (grind (arith, places)) (λ i d h. grind (arith, places))
      | inr is_high ↦ let e = high is_high in same_lists _ _ (grind (arith, places)) (λ i d h. grind (arith, places))
    ]

    pub put_in_run : (m : ℕ) (ys zs : List X) → zs ≡ ys → m ≡ length ys → o + length ys ≤ length xs → p + length ys ≤ length xs → cells_from k (put_mid p m xs zs) ≡ overwrite (cells_from k xs) o ys
    put_in_run m ys zs is m_is fits in_run =
        ap₂ (λ (j : ℕ) (ws : List X). cells_from k (put_mid p j xs ws)) m_is is
        ∙ ap (λ (ws : List X). cells_from k (take p xs ++ (ys ++ ws))) (drop-drop (length ys) p xs)
        ∙ written_in_run ys fits in_run

    -- the first part goes to the places up to the end, the rest to the first places
    pub put_around : (m b : ℕ) (ys fs bs : List X) → fs ≡ take m ys → bs ≡ drop m ys → m ≡ length xs - p → b + m ≡ length ys → p ≤ length xs → m ≤ length ys → o + length ys ≤ length xs
        → cells_from k (bs ++ drop b (put_mid p m xs fs)) ≡ overwrite (cells_from k xs) o ys
    put_around m b ys fs bs fs_is bs_is m_is b_is p_within m_within fits =
        ap₂ (λ (gs hs : List X). cells_from k (hs ++ drop b (put_mid p m xs gs))) fs_is bs_is
        ∙ elim (cases_lt (k + o) (length xs)) [
          | inl is_low ↦ let e = low is_low in same_lists _ _ (grind (arith, places)) (λ i d h. grind (arith, places))
          | inr is_high ↦ let e = high is_high in same_lists _ _ (grind (arith, places)) (λ i d h. grind (arith, places))
        ]

    pub read_in_run : (m n : ℕ) → o + n ≤ length xs → p + n ≤ length xs → m ≡ n → take m (drop p xs) ≡ take n (drop o (cells_from k xs))
    read_in_run m n fits in_run m_is = elim (cases_lt (k + o) (length xs)) [
      | inl is_low ↦ let e = low is_low in same_lists _ _ (grind (arith, places)) (λ i d h. grind (arith, places))
      | inr is_high ↦ let e = high is_high in same_lists _ _ (grind (arith, places)) (λ i d h. grind (arith, places))
    ]

    pub read_around : (m n : ℕ) (fs bs : List X) → fs ≡ take (length xs - p) (drop p xs) → bs ≡ take (n - m) xs → m ≡ length xs - p → p ≤ length xs → m ≤ n → o + n ≤ length xs → fs ++ bs ≡ take n (drop o (cells_from k xs))
    read_around m n fs bs fs_is bs_is m_is p_within m_within fits = ap₂ ◌++◌ fs_is bs_is ∙ elim (cases_lt (k + o) (length xs)) [
      | inl is_low ↦ let e = low is_low in same_lists _ _ (grind (arith, places)) (λ i d h. grind (arith, places))
      | inr is_high ↦ let e = high is_high in same_lists _ _ (grind (arith, places)) (λ i d h. grind (arith, places))
    ]

  -- a write leaves the end where it is
  end_written : (k o : ℕ) (xs zs ys : List X) → o + length ys ≤ length xs → cells_from k zs ≡ overwrite (cells_from k xs) o ys → length zs - k ≡ length xs - k
  end_written k o xs zs ys fits written =
      let long = length_around k xs in
      ap (λ j. j - k) (sym (length_around k zs) ∙ ap (λ (l : List X). length l) written ∙ length-overwrite (cells_from k xs) o ys (omega (arith, long, fits)) ∙ long)

  -- a write to the spare places, and one that the queue then takes in
  pub spare_written : (k n o : ℕ) (xs zs ys : List X) (r : Ring X) → ring_of k n xs ≡ r → (k ≤ length xs) × (n ≤ length xs) → n + o + length ys ≤ length xs
      → cells_from k zs ≡ overwrite (cells_from k xs) (n + o) ys → ring_of k n zs ≡ ring r.queue (overwrite r.spare o ys) r.until_end
  spare_written k n o xs zs ys r is inv fits written =
      let cs = cells_from k xs in
      let len = length-cells k xs inv.0 in
      ap (λ (cs : List X). ring (take n cs) (drop n cs) (length zs - k)) written
      ∙ ring_is (same_lists (take n (overwrite cs (n + o) ys)) (take n cs) (grind (arith, places)) (λ i d h. grind (arith, places))) (same_lists (drop n (overwrite cs (n + o) ys)) (overwrite (drop n cs) o ys) (grind (arith, places)) (λ i d h. grind (arith, places)))
      (end_written k (n + o) xs zs ys (omega arith) written)
      ∙ ap (λ (r : Ring X). ring r.queue (overwrite r.spare o ys) r.until_end) is

  -- the same of as many of some items as fit
  pub items_written : (k n o c : ℕ) (xs zs items : List X) (r : Ring X) → ring_of k n xs ≡ r → (k ≤ length xs) × (n ≤ length xs) → (length xs - n ≤ o → ⊥) → c ≡ min (length items) (length xs - n - o)
      → cells_from k zs ≡ overwrite (cells_from k xs) (n + o) (take c items) → ring_of k n zs ≡ ring r.queue (overwrite r.spare o (take c items)) r.until_end
  items_written k n o c xs zs items r is inv some c_is written = spare_written k n o xs zs (take c items) r is inv (omega (arith, some, c_is, length-take c items)) written

  pub written_behind : (k n c : ℕ) (xs zs ys : List X) (r : Ring X) → ring_of k n xs ≡ r → (k ≤ length xs) × (n ≤ length xs) → c ≡ length ys → n + c ≤ length xs
      → cells_from k zs ≡ overwrite (cells_from k xs) n ys → ring_of k (n + c) zs ≡ ring (r.queue ++ ys) (drop c r.spare) r.until_end
  written_behind k n c xs zs ys r is inv c_is fits written =
      let cs = cells_from k xs in
      let len = length-cells k xs inv.0 in
      ap (λ (cs : List X). ring (take (n + c) cs) (drop (n + c) cs) (length zs - k)) written
      ∙ ring_is (same_lists (take (n + c) (overwrite cs n ys)) (take n cs ++ ys) (grind (arith, places)) (λ i d h. grind (arith, places))) (same_lists (drop (n + c) (overwrite cs n ys)) (drop c (drop n cs)) (grind (arith, places)) (λ i d h. grind (arith, places)))
      (end_written k n xs zs ys (omega arith) written)
      ∙ ap (λ (r : Ring X). ring (r.queue ++ ys) (drop c r.spare) r.until_end) is

  -- a run of places read as a beginning of the queue
  pub queue_run : (k n o p m : ℕ) (xs : List X) (r : Ring X) → ring_of k n xs ≡ r → (k ≤ length xs) × (n ≤ length xs)
      → (k + o < length xs → p ≡ k + o) → (length xs ≤ k + o → p + length xs ≡ k + o) → o + m ≤ n → p + m ≤ length xs
      → take m (drop p xs) ≡ take m (drop o r.queue)
  queue_run k n o p m xs r is inv low high fits in_run =
      let cs = cells_from k xs in
      let len = length-cells k xs inv.0 in
      read_in_run k o p xs inv.0 low high m m (omega arith) in_run refl
      ∙ same_lists (take m (drop o cs)) (take m (drop o (take n cs))) (grind (arith, places)) (λ i d h. grind (arith, places))
      ∙ ap (λ (r : Ring X). take m (drop o r.queue)) is

  pub spare_run : (k n p m : ℕ) (xs : List X) (r : Ring X) → ring_of k n xs ≡ r → (k ≤ length xs) × (n ≤ length xs)
      → (k + n < length xs → p ≡ k + n) → (length xs ≤ k + n → p + length xs ≡ k + n) → n + m ≤ length xs → p + m ≤ length xs
      → take m (drop p xs) ≡ take m r.spare
  spare_run k n p m xs r is inv low high fits in_run =
      read_in_run k n p xs inv.0 low high m m fits in_run refl
      ∙ ap (λ (r : Ring X). take m r.spare) is

  -- a run of spare places is left as zs, and its first c items join the queue
  pub run_joined : (k n p c : ℕ) (xs ys zs : List X) (r : Ring X) → ring_of k n xs ≡ r → (k ≤ length xs) × (n ≤ length xs)
      → (k + n < length xs → p ≡ k + n) → (length xs ≤ k + n → p + length xs ≡ k + n) → n + length zs ≤ length xs → p + length zs ≤ length xs → c ≤ length zs
      → ys ≡ overwrite xs p zs
      → ring_of k (n + c) ys ≡ ring (r.queue ++ take c zs) (drop c (overwrite r.spare 0 zs)) r.until_end
  run_joined k n p c xs ys zs r is inv low high fits in_run within left =
      let cs = cells_from k xs in
      let len = length-cells k xs inv.0 in
      ap (λ (ys : List X). ring_of k (n + c) ys) left
      ∙ ap (λ (cs : List X). ring (take (n + c) cs) (drop (n + c) cs) (length (overwrite xs p zs) - k)) (written_in_run k n p xs inv.0 low high zs fits in_run)
      ∙ ring_is (same_lists (take (n + c) (overwrite cs n zs)) (take n cs ++ take c zs) (grind (arith, places)) (λ i d h. grind (arith, places))) (same_lists (drop (n + c) (overwrite cs n zs)) (drop c (overwrite (drop n cs) 0 zs)) (grind (arith, places)) (λ i d h. grind (arith, places)))
      (ap (λ j. j - k) (length-overwrite xs p zs in_run))
      ∙ ap (λ (r : Ring X). ring (r.queue ++ take c zs) (drop c (overwrite r.spare 0 zs)) r.until_end) is

  -- the queue read from the offset o on, up to the end
  pub piece_read : (k n o p m c : ℕ) (xs : List X) (r : Ring X) → ring_of k n xs ≡ r → (k ≤ length xs) × (n ≤ length xs) → (n ≤ o → ⊥)
      → (k + o < length xs → p ≡ k + o) → (length xs ≤ k + o → p + length xs ≡ k + o) → p ≤ length xs → m - p ≡ min (min c (n - o)) (length xs - p)
      → take (m - p) (drop p xs) ≡ take (min c (queue_piece r o)) (drop o r.queue)
  piece_read k n o p m c xs r is inv some low high within m_is =
      let piece = piece_is (length xs) k o p inv.0 low high n inv.1 in
      let queue = length-queue k n xs r is inv.0 inv.1 in
      let same : in_one_piece (length xs - k) n o ≡ queue_piece r o = λ i. in_one_piece (ap (λ (r : Ring X). r.until_end) is i) (sym queue i) o in
      queue_run k n o p (m - p) xs r is inv low high (omega (arith, m_is, some)) (omega (arith, m_is, within))
      ∙ ap (λ j. take j (drop o r.queue)) {x = m - p} {y = min c (in_one_piece (length xs - k) n o)} (omega (arith, m_is, piece))
      ∙ ap (λ j. take (min c j) (drop o r.queue)) same

  pub no_piece : (k n o c : ℕ) (xs : List X) (r : Ring X) → ring_of k n xs ≡ r → (k ≤ length xs) × (n ≤ length xs) → n ≤ o → [] ≡ take (min c (queue_piece r o)) (drop o r.queue)
  no_piece k n o c xs r is inv none =
      let queue = length-queue k n xs r is inv.0 inv.1 in
      let piece = piece_within r.until_end (length r.queue) o in
      ap (λ j. take j (drop o r.queue)) {x = 0} {y = min c (queue_piece r o)} (omega (arith, queue, piece, none))

  -- counting on to the end, the places stand as at first
  cells_back : (k : ℕ) (xs : List X) → k ≤ length xs → cells_from (length xs - k) (cells_from k xs) ≡ xs
  cells_back k xs within = let len = length-cells k xs within in same_lists _ _ (grind (arith, places)) (λ i d h. grind (arith, places))

  cells_none : (xs : List X) → cells_from 0 xs ≡ xs
  cells_none xs = append-nil xs

  pub cleared : (k n : ℕ) (xs : List X) (r : Ring X) → ring_of k n xs ≡ r → (k ≤ length xs) × (n ≤ length xs) → ring_of 0 0 xs ≡ emptied r
  cleared k n xs r is inv =
      let end : length xs - k ≡ r.until_end = ap (λ (r : Ring X). r.until_end) is in
      let places : xs ≡ cells_from r.until_end (r.queue ++ r.spare) = sym (cells_back k xs inv.0) ∙ (λ i. cells_from (end i) (sym (all_places k n xs r is) i)) in
      new_ring xs ∙ ring_is refl places (sym (capacity_is k n xs r is))

  -- an empty queue begins at the first place
  module _ (k n : ℕ) (xs : List X) (r : Ring X) (is : ring_of k n xs ≡ r) (inv : (k ≤ length xs) × (n ≤ length xs)) where
    queue_length : length r.queue ≡ n
    queue_length = length-queue k n xs r is inv.0 inv.1

    pub restarted_is : n ≡ 0 → ring_of 0 n xs ≡ restarted r
    unfolding spare_anew end_anew
    restarted_is none =
        let test : (length r.queue == 0) ≡ true = ap (λ j. j == 0) (queue_length ∙ none) in
        let end : length xs - k ≡ r.until_end = ap (λ (r : Ring X). r.until_end) is in
        let all : r.spare ≡ cells_from k xs = ap (λ (r : Ring X). r.spare) (sym is) ∙ ap (λ j. drop j (cells_from k xs)) none in
        let places : xs ≡ cells_from r.until_end r.spare = sym (cells_back k xs inv.0) ∙ (λ i. cells_from (end i) (sym all i)) in
        let spare : length xs ≡ length r.spare = omega (arith, length-spare k n xs r is inv.0, none) in
        ap (λ j. ring_of 0 j xs) none ∙ new_ring xs
        ∙ ring_is (ap (λ j. take j (cells_from k xs)) (sym none) ∙ ap (λ (r : Ring X). r.queue) is)
        (places ∙ ap (λ (b : Bool). cond b (cells_from r.until_end r.spare) r.spare) (sym test))
        (spare ∙ ap (λ (b : Bool). cond b (length r.spare) r.until_end) (sym test))

    pub restarted_spare : n ≡ 0 → length (drop n (cells_from 0 xs)) ≡ length r.spare
    restarted_spare none = ap (λ (r : Ring X). length r.spare) (restarted_is none) ∙ length_anew r.until_end r.queue r.spare

    pub not_restarted_is : (n ≡ 0 → ⊥) → r ≡ restarted r
    unfolding spare_anew end_anew
    not_restarted_is some =
        let test : (length r.queue == 0) ≡ false = grind (arith, nat_tests, queue_length, some) in
        ring_is refl (ap (λ (b : Bool). cond b (cells_from r.until_end r.spare) r.spare) (sym test)) (ap (λ (b : Bool). cond b (length r.spare) r.until_end) (sym test))

  -- r is the ring before the call, s as it was lent
  pub enqueued_with : {R : Type 0} (called : List X → ℕ × R → List X → Type 0) (k n p m : ℕ) (result : ℕ × R) (xs ys : List X) (r s : Ring X) → s ≡ restarted r → ring_of k n xs ≡ s → (k ≤ length xs) × (n ≤ length xs)
      → (k + n < length xs → p ≡ k + n) → (length xs ≤ k + n → p + length xs ≡ k + n) → m ≡ min (length xs - n) (length xs - p) → p ≤ length xs → result.0 ≤ m
      → LeavesRun called xs p m result ys
      → EnqueuesWith called r result (ring_of k (n + result.0) ys)
  enqueued_with called k n p m result xs ys r s from was inv low high m_is p_within within run =
      let is = was ∙ from in
      let queue : length r.queue ≡ n = length-queue k n xs (restarted r) is inv.0 inv.1 in
      let capacity : capacity_of r ≡ length xs = ap (λ j. length r.queue + j) (sym (length_anew r.until_end r.queue r.spare)) ∙ capacity_is k n xs (restarted r) is in
      let end : length xs - k ≡ (restarted r).until_end = ap (λ (r : Ring X). r.until_end) is in
      let piece : m ≡ spare_piece r = m_is ∙ piece_is (length xs) k n p inv.0 low high (length xs) (omega arith) ∙ (λ i. in_one_piece (end i) (sym capacity i) (sym queue i)) in
      let fits : n + m ≤ length xs = omega (arith, m_is, inv.1) in
      let in_run : p + m ≤ length xs = omega (arith, m_is, p_within) in
      let long = run.left_length in
      record {
        left = run.left;
        left_length = long ∙ piece;
        met = subst (λ (zs : List X). called zs result run.left) (spare_run k n p m xs (restarted r) is inv low high fits in_run ∙ ap (λ j. take j (restarted r).spare) piece) run.met;
        size_within = omega (arith, piece, within);
        after = run_joined k n p result.0 xs ys run.left (restarted r) is inv low high (omega (arith, long, fits)) (omega (arith, long, in_run)) (omega (arith, long, within)) run.after;
      }

  -- the queue from the offset o on, read around the end
  pub queue_read : (k n o c : ℕ) (xs out rest : List X) (r : Ring X) → ring_of k n xs ≡ r → (k ≤ length xs) × (n ≤ length xs) → c + o ≤ n
      → out ≡ take c (drop o (cells_from k xs)) → out ++ rest ≡ take c (drop o r.queue) ++ rest
  queue_read k n o c xs out rest r is inv within out_is =
      let len = length-cells k xs inv.0 in
      ap (λ (l : List X). l ++ rest)
      (out_is ∙ same_lists (take c (drop o (cells_from k xs))) (take c (drop o (take n (cells_from k xs)))) (grind (arith, places)) (λ i d h. grind (arith, places))
      ∙ ap (λ (r : Ring X). take c (drop o r.queue)) is)

  pub items_read : (k n o c : ℕ) (xs out given : List X) (r : Ring X) → ring_of k n xs ≡ r → (k ≤ length xs) × (n ≤ length xs) → (n ≤ o → ⊥) → c ≡ min (length given) (n - o)
      → out ≡ take (length (take c given)) (drop o (cells_from k xs)) → out ++ drop c given ≡ take c (drop o r.queue) ++ drop c given
  items_read k n o c xs out given r is inv some c_is read =
      queue_read k n o c xs out (drop c given) r is inv (omega (arith, some, c_is)) (read ∙ ap (λ j. take j (drop o (cells_from k xs))) (length-take-le c given (omega (arith, c_is))))

  -- one item written behind the queue
  pub one_appended : (k n p : ℕ) (xs : List X) (x : X) (r : Ring X) → ring_of k n xs ≡ r → (k ≤ length xs) × (n ≤ length xs)
      → (k + n < length xs → p ≡ k + n) → (length xs ≤ k + n → p + length xs ≡ k + n) → 0 < length r.spare → p < length xs
      → ring_of k (n + 1) (set xs p x) ≡ ring (r.queue ++ x ∷ []) (drop 1 r.spare) r.until_end
  one_appended k n p xs x r is inv low high room within =
      let spare = length-spare k n xs r is inv.0 in
      let next : suc p ≡ p + 1 = omega arith in
      let split : set xs p x ≡ overwrite xs p (x ∷ []) = set_split xs p x within ∙ ap (λ j. take p xs ++ x ∷ drop j xs) next in
      written_behind k n 1 xs (set xs p x) (x ∷ []) r is inv refl (omega arith) (ap (λ (ys : List X). cells_from k ys) split ∙ written_in_run k n p xs inv.0 low high (x ∷ []) (omega arith) (omega arith))

  -- the place behind the queue is one of the ring's, where one is spare
  pub place_below : (k n p : ℕ) (xs : List X) (r : Ring X) → ring_of k n xs ≡ r → (k ≤ length xs) × (n ≤ length xs) → 0 < length r.spare
      → (k + n < length xs → p ≡ k + n) → (length xs ≤ k + n → p + length xs ≡ k + n) → p < length xs
  place_below k n p xs r is inv room low high =
      let spare = length-spare k n xs r is inv.0 in
      elim (cases_lt (k + n) (length xs)) [
        | inl is_low ↦ let e = low is_low in omega arith
        | inr is_high ↦ let e = high is_high in omega arith
      ]

-- what `RingBuffer::restart_if_empty` rests on
pub ruleset restarts = (restarted_is, not_restarted_is, restarted_spare)
