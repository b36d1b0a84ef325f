-- Lemmas on sets of ranges.
use Rattle.std.proofs.Common.{◌≡◌, ℕ, zero, suc, ◌+◌, ◌-◌, ◌<◌, ◌≤◌, Bool, true, false, cond, ◌&&◌, ◌||◌, ltb, min, max, List, [], ◌∷◌, ◌++◌, length, take, drop, set, get_or, refl, sym, ap, ap₂, subst, ◌∙◌, inl, inr, arith, length-take, length-drop}
use Rattle.std.proofs.lemmas.Bool.{cases_lt, lt-ltb, le-ltb, ltb-true, eqb-true, false≢true}
use Rattle.std.proofs.lemmas.List.{take_more_set, append_assoc, drop_more, drop_all, length-set, append-nil}
use Rattle.std.proofs.lemmas.Bool.Decides.{nat_tests}
use Rattle.std.specs.Prelude.{Result, Ok, Err, nat_lt, ◌==◌, not}
use Rattle.net_base.specs.declared.assembler.Range.{Range}
use Rattle.net_base.specs.declared.assembler.TooManyHoles.{TooManyHoles}
use Rattle.net_base.specs.Ranges.{range, is_within, is_held, Apart, insert_range, lowered, front_end, behind_front, run_after, ranges_after, is_refused, IsTidy, Adds}

-- an offset is in the union of two ranges that touch exactly where it is in one of them
pub within_joined : (lo hi s e x : ℕ) → lo < hi → s < e → lo ≤ e → s ≤ hi → is_within (min lo s) (max hi e) x ≡ is_within lo hi x || is_within s e x
within_joined lo hi s e x a b c d = grind (arith, nat_tests)

or_move : (a b c : Bool) → a || (b || c) ≡ b || (a || c)
or_move true true c = refl
or_move true false c = refl
or_move false true c = refl
or_move false false c = refl

or_assoc : (a b c : Bool) → (a || b) || c ≡ a || (b || c)
or_assoc true b c = refl
or_assoc false b c = refl

pub or_first : (a b : Bool) → a ≡ true → a || b ≡ true
or_first true b h = refl
or_first false b h = absurd (false≢true h)

pub or_true : (a b : Bool) → b ≡ true → a || b ≡ true
or_true true b h = refl
or_true false b h = h

-- the three cases of insert_range
pub insert_range_behind : (lo hi : ℕ) (r : Range) (rs : List Range) → r.end < lo → insert_range lo hi (r ∷ rs) ≡ r ∷ insert_range lo hi rs
insert_range_behind lo hi r rs h = ap (λ (b : Bool). cond b (r ∷ insert_range lo hi rs) (cond (ltb hi r.start) (range lo hi ∷ (r ∷ rs)) (insert_range (min lo r.start) (max hi r.end) rs))) (lt-ltb r.end lo h)

pub insert_range_before : (lo hi : ℕ) (r : Range) (rs : List Range) → lo ≤ r.end → hi < r.start → insert_range lo hi (r ∷ rs) ≡ range lo hi ∷ (r ∷ rs)
insert_range_before lo hi r rs h k =
    ap (λ (b : Bool). cond b (r ∷ insert_range lo hi rs) (cond (ltb hi r.start) (range lo hi ∷ (r ∷ rs)) (insert_range (min lo r.start) (max hi r.end) rs))) (le-ltb r.end lo h)
    ∙ ap (λ (b : Bool). cond b (range lo hi ∷ (r ∷ rs)) (insert_range (min lo r.start) (max hi r.end) rs)) (lt-ltb hi r.start k)

pub insert_range_joined : (lo hi : ℕ) (r : Range) (rs : List Range) → lo ≤ r.end → r.start ≤ hi → insert_range lo hi (r ∷ rs) ≡ insert_range (min lo r.start) (max hi r.end) rs
insert_range_joined lo hi r rs h k =
    ap (λ (b : Bool). cond b (r ∷ insert_range lo hi rs) (cond (ltb hi r.start) (range lo hi ∷ (r ∷ rs)) (insert_range (min lo r.start) (max hi r.end) rs))) (le-ltb r.end lo h)
    ∙ ap (λ (b : Bool). cond b (range lo hi ∷ (r ∷ rs)) (insert_range (min lo r.start) (max hi r.end) rs)) (le-ltb hi r.start k)

-- exactly the offsets that were held or are in the new range are held
pub is_held-insert_range : (rs : List Range) (b lo hi x : ℕ) → Apart b rs → lo < hi → is_held (insert_range lo hi rs) x ≡ is_within lo hi x || is_held rs x
is_held-insert_range [] b lo hi x apart order = refl
is_held-insert_range (r ∷ rs) b lo hi x apart order = elim (cases_lt r.end lo) [
  | inl behind ↦
      ap (λ (l : List Range). is_held l x) (insert_range_behind lo hi r rs behind)
      ∙ ap (λ (b : Bool). is_within r.start r.end x || b) (is_held-insert_range rs (r.end + 1) lo hi x apart.2 order)
      ∙ or_move (is_within r.start r.end x) (is_within lo hi x) (is_held rs x)
  | inr reaches ↦ elim (cases_lt hi r.start) [
    | inl before ↦ ap (λ (l : List Range). is_held l x) (insert_range_before lo hi r rs reaches before)
    | inr touches ↦
        ap (λ (l : List Range). is_held l x) (insert_range_joined lo hi r rs reaches touches)
        ∙ is_held-insert_range rs (r.end + 1) (min lo r.start) (max hi r.end) x apart.2 (omega (arith, order))
        ∙ ap (λ (b : Bool). b || is_held rs x) (within_joined lo hi r.start r.end x order apart.1 reaches touches)
        ∙ or_assoc (is_within lo hi x) (is_within r.start r.end x) (is_held rs x)
  ]
]

pub Apart-insert_range : (rs : List Range) (b c lo hi : ℕ) → Apart b rs → lo < hi → c ≤ b → c ≤ lo → Apart c (insert_range lo hi rs)
Apart-insert_range [] b c lo hi apart order low new = (new, order, tt)
Apart-insert_range (r ∷ rs) b c lo hi apart order low new = elim (cases_lt r.end lo) [
  | inl behind ↦ subst (λ (l : List Range). Apart c l) (sym (insert_range_behind lo hi r rs behind)) (omega (arith, apart.0), apart.1, Apart-insert_range rs (r.end + 1) (r.end + 1) lo hi apart.2 order (omega arith) (omega arith))
  | inr reaches ↦ elim (cases_lt hi r.start) [
    | inl before ↦ subst (λ (l : List Range). Apart c l) (sym (insert_range_before lo hi r rs reaches before)) (new, order, (omega arith, apart.1, apart.2))
    | inr touches ↦ subst (λ (l : List Range). Apart c l) (sym (insert_range_joined lo hi r rs reaches touches)) (Apart-insert_range rs (r.end + 1) c (min lo r.start) (max hi r.end) apart.2 (omega (arith, order)) (omega (arith, apart.0, apart.1)) (omega (arith, apart.0)))
  ]
]

module _ (rs all : List Range) (i count lo hi : ℕ) (res : List Range) (d : Range) (below : i < length rs) where
  -- a range that is kept as it is
  pub kept : (placed : Bool) → count < length all → (placed || ltb (get_or rs i d).end lo) ≡ true
      → take count all ++ cond placed (drop i rs) (insert_range lo hi (drop i rs)) ≡ res
      → take (count + 1) (set all count (get_or rs i d)) ++ cond placed (drop (i + 1) rs) (insert_range lo hi (drop (i + 1) rs)) ≡ res
  kept true room h so_far =
      ap (λ (l : List Range). l ++ drop (i + 1) rs) (take_more_set all count (get_or rs i d) room)
      ∙ append_assoc (take count all) (get_or rs i d ∷ []) (drop (i + 1) rs)
      ∙ ap (λ (l : List Range). take count all ++ l) (sym (drop_more rs i d below))
      ∙ so_far
  kept false room h so_far =
      ap (λ (l : List Range). l ++ insert_range lo hi (drop (i + 1) rs)) (take_more_set all count (get_or rs i d) room)
      ∙ append_assoc (take count all) (get_or rs i d ∷ []) (insert_range lo hi (drop (i + 1) rs))
      ∙ ap (λ (l : List Range). take count all ++ l) (sym (insert_range_behind lo hi (get_or rs i d) (drop (i + 1) rs) (ltb-true _ _ h)))
      ∙ ap (λ (l : List Range). take count all ++ insert_range lo hi l) (sym (drop_more rs i d below))
      ∙ so_far

  -- the new range is put before a later one
  pub put_before : count + 1 < length all → lo ≤ (get_or rs i d).end → hi < (get_or rs i d).start
      → take count all ++ insert_range lo hi (drop i rs) ≡ res
      → take (count + 2) (set (set all count (range lo hi)) (count + 1) (get_or rs i d)) ++ drop (i + 1) rs ≡ res
  put_before room reaches before so_far =
      let r = get_or rs i d in
      let long = length-set all count (range lo hi) in
      let two : count + 2 ≡ count + 1 + 1 = omega arith in
      ap (λ j. take j (set (set all count (range lo hi)) (count + 1) r) ++ drop (i + 1) rs) two
      ∙ ap (λ (l : List Range). l ++ drop (i + 1) rs) (take_more_set (set all count (range lo hi)) (count + 1) r (omega arith))
      ∙ ap (λ (l : List Range). (l ++ r ∷ []) ++ drop (i + 1) rs) (take_more_set all count (range lo hi) (omega arith))
      ∙ append_assoc (take count all ++ range lo hi ∷ []) (r ∷ []) (drop (i + 1) rs)
      ∙ append_assoc (take count all) (range lo hi ∷ []) (r ∷ drop (i + 1) rs)
      ∙ ap (λ (l : List Range). take count all ++ l) (sym (insert_range_before lo hi r (drop (i + 1) rs) reaches before))
      ∙ ap (λ (l : List Range). take count all ++ insert_range lo hi l) (sym (drop_more rs i d below))
      ∙ so_far

-- the new range is put last
pub put_last : (rs all : List Range) (i count lo hi : ℕ) (res : List Range) → length rs ≤ i → count < length all
    → take count all ++ insert_range lo hi (drop i rs) ≡ res → take (count + 1) (set all count (range lo hi)) ≡ res
put_last rs all i count lo hi res past room so_far =
    take_more_set all count (range lo hi) room ∙ ap (λ (l : List Range). take count all ++ insert_range lo hi l) (sym (drop_all i rs past)) ∙ so_far

-- ---- removing the run from offset 0

-- nothing is held before the first range
pub below_apart : (rs : List Range) (b k : ℕ) → Apart b rs → k < b → is_held rs k ≡ false
below_apart [] b k apart low = refl
below_apart (r ∷ rs) b k apart low =
    let out : is_within r.start r.end k ≡ false = grind (arith, nat_tests, apart.0) in
    rw out (below_apart rs (r.end + 1) k apart.2 (omega (arith, apart.0, apart.1)))

within_lowered : (c s e k : ℕ) → c ≤ s → is_within (s - c) (e - c) k ≡ is_within s e (c + k)
within_lowered c s e k h = grind (arith, nat_tests)

pub held_lowered : (rs : List Range) (b c k : ℕ) → Apart b rs → c ≤ b → is_held (lowered c rs) k ≡ is_held rs (c + k)
held_lowered [] b c k apart low = refl
held_lowered (r ∷ rs) b c k apart low =
    (λ i. within_lowered c r.start r.end k (omega (arith, apart.0)) i || held_lowered rs (r.end + 1) c k apart.2 (omega (arith, apart.0, apart.1)) i)

pub Apart-lowered : (rs : List Range) (b c : ℕ) → Apart b rs → c ≤ b → Apart (b - c) (lowered c rs)
Apart-lowered [] b c apart low = tt
Apart-lowered (r ∷ rs) b c apart low =
    let e : r.end + 1 - c ≡ r.end - c + 1 = omega (arith, apart.0, apart.1) in
    (omega (arith, apart.0), omega (arith, apart.0, apart.1), subst (λ n. Apart n (lowered c rs)) e (Apart-lowered rs (r.end + 1) c apart.2 (omega (arith, apart.0, apart.1))))

pub length-lowered : (rs : List Range) (c : ℕ) → length (lowered c rs) ≡ length rs
length-lowered [] c = refl
length-lowered (r ∷ rs) c = ap suc (length-lowered rs c)

pub length-insert_range : (rs : List Range) (lo hi : ℕ) → length (insert_range lo hi rs) ≤ length rs + 1
length-insert_range [] lo hi = omega arith
length-insert_range (r ∷ rs) lo hi = elim (cases_lt r.end lo) [
  | inl behind ↦ subst (λ (l : List Range). length l ≤ length (r ∷ rs) + 1) (sym (insert_range_behind lo hi r rs behind)) (omega (arith, length-insert_range rs lo hi))
  | inr reaches ↦ elim (cases_lt hi r.start) [
    | inl before ↦ subst (λ (l : List Range). length l ≤ length (r ∷ rs) + 1) (sym (insert_range_before lo hi r rs reaches before)) (omega arith)
    | inr touches ↦ subst (λ (l : List Range). length l ≤ length (r ∷ rs) + 1) (sym (insert_range_joined lo hi r rs reaches touches)) (omega (arith, length-insert_range rs (min lo r.start) (max hi r.end)))
  ]
]

-- an addition at 0 gives a first range from 0
pub insert_at_zero : (rs : List Range) (lo hi : ℕ) → lo ≡ 0 → (e : ℕ) × (tl : List Range) × (insert_range lo hi rs ≡ range 0 e ∷ tl)
insert_at_zero [] lo hi z = (hi, [], ap (λ n. range n hi ∷ []) z)
insert_at_zero (r ∷ rs) lo hi z = elim (cases_lt hi r.start) [
  | inl before ↦ (hi, r ∷ rs, insert_range_before lo hi r rs (omega (arith, z)) before ∙ ap (λ n. range n hi ∷ (r ∷ rs)) z)
  | inr touches ↦ let f = insert_at_zero rs (min lo r.start) (max hi r.end) (omega (arith, z)) in (f.0, f.1, insert_range_joined lo hi r rs (omega (arith, z)) touches ∙ f.2)
]

module _ (n : ℕ) (rs : List Range) (tidy : IsTidy rs) (some : 0 < n) where
  -- a first range from 0 leaves
  front_leaves : (e : ℕ) (tl : List Range) → insert_range 0 (0 + n) rs ≡ range 0 e ∷ tl → Adds 0 n rs e (lowered e tl)
  front_leaves e tl is =
      let apart : Apart 0 (range 0 e ∷ tl) = subst (λ (l : List Range). Apart 0 l) is (Apart-insert_range rs 1 0 0 (0 + n) tidy.apart (omega arith) (omega arith) (omega arith)) in
      let held : (k : ℕ) → is_held (range 0 e ∷ tl) k ≡ (is_within 0 (0 + n) k || is_held rs k) = λ k. ap (λ (l : List Range). is_held l k) (sym is) ∙ is_held-insert_range rs 1 0 (0 + n) k tidy.apart (omega arith) in
      let few : length tl ≤ 4 = omega (arith, length-insert_range rs 0 (0 + n), ap length is, tidy.few) in
      let one : e + 1 - e ≡ 1 = omega arith in
      record {
        tidy = record { apart = subst (λ m. Apart m (lowered e tl)) one (Apart-lowered tl (e + 1) e apart.2 (omega arith)); few = omega (arith, length-lowered tl e, few) };
        joined = λ k low. sym (held k) ∙ or_first (is_within 0 e k) (is_held tl k) (grind (arith, nat_tests));
        stops = sym (held e) ∙ (let out : is_within 0 e e ≡ false = grind (arith, nat_tests) in rw out (below_apart tl (e + 1) e apart.2 (omega arith)));
        others = λ k. held_lowered tl (e + 1) e k apart.2 (omega arith) ∙ (let out : is_within 0 e (e + k) ≡ false = grind (arith, nat_tests) in ap (λ b. b || is_held tl (e + k)) (sym out)) ∙ held (e + k);
      }

  adds_front : Adds 0 n rs (run_after 0 n rs) (ranges_after 0 n rs)
  adds_front = let f = insert_at_zero rs 0 (0 + n) refl in
      subst (λ (l : List Range). Adds 0 n rs (front_end l) (lowered (front_end l) (behind_front l))) (sym f.2) (front_leaves f.0 f.1 f.2)

  -- elsewhere no run begins
  adds_behind : (o : ℕ) → 0 < o → nat_lt 4 (length (insert_range o (o + n) rs)) ≡ false → Adds o n rs 0 (insert_range o (o + n) rs)
  adds_behind o far fits =
      let apart : Apart 1 (insert_range o (o + n) rs) = Apart-insert_range rs 1 1 o (o + n) tidy.apart (omega arith) (omega arith) (omega arith) in
      let held : (k : ℕ) → is_held (insert_range o (o + n) rs) k ≡ (is_within o (o + n) k || is_held rs k) = λ k. is_held-insert_range rs 1 o (o + n) k tidy.apart (omega arith) in
      record {
        tidy = record { apart = apart; few = grind (arith, nat_tests, fits) };
        joined = λ k low. absurd (omega (arith, low));
        stops = sym (held 0) ∙ below_apart (insert_range o (o + n) rs) 1 0 apart (omega arith);
        others = λ k. held k ∙ ap (λ j. is_within o (o + n) j || is_held rs j) {x = k} {y = 0 + k} (omega arith);
      }

  pub adds_set : (o : ℕ) → is_refused o n rs ≡ false → Adds o n rs (run_after o n rs) (ranges_after o n rs)
  adds_set o fits = go (o == 0) refl fits
    where
      go : (b : Bool) → (o == 0) ≡ b → cond b false (nat_lt 4 (length (insert_range o (o + n) rs))) ≡ false
          → Adds o n rs (cond b (front_end (insert_range o (o + n) rs)) 0) (cond b (lowered (front_end (insert_range o (o + n) rs)) (behind_front (insert_range o (o + n) rs))) (insert_range o (o + n) rs))
      go true e fits = subst (λ j. Adds j n rs (front_end (insert_range j (j + n) rs)) (lowered (front_end (insert_range j (j + n) rs)) (behind_front (insert_range j (j + n) rs)))) (sym (eqb-true o 0 e)) adds_front
      go false e fits = adds_behind o (grind (arith, nat_tests)) fits

-- ---- the ranges are determined by the offsets that they hold

held_at_start : (r : Range) (rs : List Range) → r.start < r.end → is_held (r ∷ rs) r.start ≡ true
held_at_start r rs order = or_first (is_within r.start r.end r.start) (is_held rs r.start) (grind (arith, nat_tests))

-- the first range does not begin later than that of another list that holds what it holds
first_start : (x y : Range) (xs ys : List Range) (b : ℕ) → Apart b (x ∷ xs) → Apart b (y ∷ ys) → ((k : ℕ) → is_held (x ∷ xs) k ≡ is_held (y ∷ ys) k) → y.start ≤ x.start
first_start x y xs ys b p q same = elim (cases_lt x.start y.start) [
  | inl less ↦ absurd (false≢true (sym (below_apart (y ∷ ys) y.start x.start (omega arith, q.1, q.2) less) ∙ sym (same x.start) ∙ held_at_start x xs p.1))
  | inr h ↦ h
]

first_end_is : (x y : Range) (xs ys : List Range) (b : ℕ) → Apart b (x ∷ xs) → Apart b (y ∷ ys) → x.start ≡ y.start → ((k : ℕ) → is_held (x ∷ xs) k ≡ is_held (y ∷ ys) k) → y.end ≤ x.end
first_end_is x y xs ys b p q start same = elim (cases_lt x.end y.end) [
  | inl less ↦
      let inside : is_within y.start y.end x.end ≡ true = grind (arith, nat_tests, p.1) in
      let outside : is_within x.start x.end x.end ≡ false = grind (arith, nat_tests) in
      absurd (false≢true (sym (ap (λ t. t || is_held xs x.end) outside ∙ below_apart xs (x.end + 1) x.end p.2 (omega arith)) ∙ same x.end ∙ or_first (is_within y.start y.end x.end) (is_held ys x.end) inside))
  | inr h ↦ h
]

same_range : (x y : Range) → x.start ≡ y.start → x.end ≡ y.end → x ≡ y
same_range x y s e = λ i. record { start = s i; end = e i }

pub same_ranges : (xs ys : List Range) (b : ℕ) → Apart b xs → Apart b ys → ((k : ℕ) → is_held xs k ≡ is_held ys k) → xs ≡ ys
same_ranges [] [] b p q same = refl
same_ranges [] (y ∷ ys) b p q same = absurd (false≢true (same y.start ∙ held_at_start y ys q.1))
same_ranges (x ∷ xs) [] b p q same = absurd (false≢true (sym (same x.start) ∙ held_at_start x xs p.1))
same_ranges (x ∷ xs) (y ∷ ys) b p q same =
    let start : x.start ≡ y.start = omega (arith, first_start x y xs ys b p q same, first_start y x ys xs b q p (λ k. sym (same k))) in
    let end : x.end ≡ y.end = omega (arith, first_end_is x y xs ys b p q start same, first_end_is y x ys xs b q p (sym start) (λ k. sym (same k))) in
    let rest : Apart (x.end + 1) ys = subst (λ n. Apart (n + 1) ys) (sym end) q.2 in
    ap₂ ◌∷◌ (same_range x y start end) (same_ranges xs ys (x.end + 1) p.2 rest (λ k. elim (cases_lt k (x.end + 1)) [
      | inl low ↦ below_apart xs (x.end + 1) k p.2 low ∙ sym (below_apart ys (x.end + 1) k rest low)
      | inr high ↦
          let out : is_within x.start x.end k ≡ false = grind (arith, nat_tests) in
          let out_too : is_within y.start y.end k ≡ false = grind (arith, nat_tests) in
          ap (λ t. t || is_held xs k) (sym out) ∙ same k ∙ ap (λ t. t || is_held ys k) out_too
    ]))

pub refused_is_fifth : (o n : ℕ) (rs qs : List Range) → IsTidy rs → 0 < n → Apart 0 qs → ((k : ℕ) → is_held qs k ≡ (is_within o (o + n) k || is_held rs k)) → is_refused o n rs ≡ (not (o == 0) && nat_lt 4 (length qs))
refused_is_fifth o n rs qs tidy some apart held =
    let joined : insert_range o (o + n) rs ≡ qs =
    same_ranges (insert_range o (o + n) rs) qs 0 (Apart-insert_range rs 1 0 o (o + n) tidy.apart (omega arith) (omega arith) (omega arith)) apart (λ k. is_held-insert_range rs 1 o (o + n) k tidy.apart (omega arith) ∙ sym (held k)) in
    elim (o == 0) as (λ b. cond b false (nat_lt 4 (length (insert_range o (o + n) rs))) ≡ (not b && nat_lt 4 (length qs))) [
      | true ↦ refl
      | false ↦ ap (λ (l : List Range). nat_lt 4 (length l)) joined
    ]

-- ---- the loop that lowers

pub lowered_one : (rs all : List Range) (i c s e : ℕ) (res : List Range) (d : Range) → i < length rs → i < length all → s ≡ (get_or rs i d).start - c → e ≡ (get_or rs i d).end - c
    → take i all ++ lowered c (drop i rs) ≡ res → take (i + 1) (set all i (range s e)) ++ lowered c (drop (i + 1) rs) ≡ res
lowered_one rs all i c s e res d below room s_is e_is so_far =
    ap (λ (l : List Range). l ++ lowered c (drop (i + 1) rs)) (take_more_set all i (range s e) room)
    ∙ append_assoc (take i all) (range s e ∷ []) (lowered c (drop (i + 1) rs))
    ∙ (λ j. take i all ++ range (s_is j) (e_is j) ∷ lowered c (drop (i + 1) rs))
    ∙ ap (λ (l : List Range). take i all ++ lowered c l) (sym (drop_more rs i d below))
    ∙ so_far

pub lowered_all : (rs all : List Range) (i n c : ℕ) (res : List Range) → n ≡ i → length rs ≤ i → take i all ++ lowered c (drop i rs) ≡ res → take n all ≡ res
lowered_all rs all i n c res e past so_far = ap (λ j. take j all) e ∙ sym (append-nil (take i all)) ∙ ap (λ (l : List Range). take i all ++ lowered c l) (sym (drop_all i rs past)) ∙ so_far

-- ---- the parts of a joined list, as they stand in an array

pub first_end : (all : List Range) (n : ℕ) (l : List Range) (d : Range) → 0 < n → 0 < length all → take n all ≡ l → (get_or all 0 d).end ≡ front_end l
first_end [] n l d some room is = absurd (omega arith)
first_end (r ∷ rs) zero l d some room is = absurd (omega arith)
first_end (r ∷ rs) (suc n) l d some room is = ap front_end is

pub rest_behind : (all : List Range) (n : ℕ) (l : List Range) → 0 < n → 0 < length all → take n all ≡ l → take (n - 1) (drop 1 all) ≡ behind_front l
rest_behind [] n l some room is = absurd (omega arith)
rest_behind (r ∷ rs) zero l some room is = absurd (omega arith)
rest_behind (r ∷ rs) (suc n) l some room is = ap (λ j. take j rs) (omega arith) ∙ ap behind_front is

-- the parts of an addition, from the parts in arrays
module _ (o n : ℕ) (rs : List Range) (tidy : IsTidy rs) (some : 0 < n) (all : List Range) (count : ℕ) (is : take count all ≡ insert_range o (o + n) rs) (first : 0 < count) (long : length all ≡ 5) (few : count ≤ 5) where
  pub count_is : length (insert_range o (o + n) rs) ≡ count
  count_is = ap length (sym is) ∙ length-take count all ∙ omega (arith, long, few)

  module _ (zero_o : o ≡ 0) where
    pub not_refused : is_refused o n rs ≡ false
    not_refused = ap (λ j. cond (j == 0) false (nat_lt 4 (length (insert_range o (o + n) rs)))) zero_o

    pub run_is : (d : Range) → (get_or all 0 d).end ≡ run_after o n rs
    run_is d = first_end all count (insert_range o (o + n) rs) d first (omega (arith, long)) is ∙ ap (λ j. cond (j == 0) (front_end (insert_range o (o + n) rs)) 0) (sym zero_o)

    -- low is what the array left holds at first
    pub lowered_is : (d : Range) (k : ℕ) (left : List Range) → k ≡ count - 1 → take k left ≡ lowered (get_or all 0 d).end (take (count - 1) (drop 1 all)) → take (count - 1) left ≡ ranges_after o n rs
    lowered_is d k left k_is low =
        ap (λ j. take j left) (sym k_is) ∙ low
        ∙ (λ i. lowered (first_end all count (insert_range o (o + n) rs) d first (omega (arith, long)) is i) (rest_behind all count (insert_range o (o + n) rs) first (omega (arith, long)) is i))
        ∙ ap (λ j. cond (j == 0) (lowered (front_end (insert_range o (o + n) rs)) (behind_front (insert_range o (o + n) rs))) (insert_range o (o + n) rs)) (sym zero_o)

    pub lowered_apart : (left : List Range) (j : ℕ) → take j left ≡ ranges_after o n rs → Apart 1 (take j left)
    lowered_apart left j e = subst (λ (l : List Range). Apart 1 l) (sym e) (adds_set n rs tidy some o not_refused).tidy.apart

  module _ (far : o ≡ 0 → ⊥) where
    far_is : (o == 0) ≡ false
    far_is = grind (arith, nat_tests, far)

    pub refused_is : is_refused o n rs ≡ nat_lt 4 count
    refused_is = ap (λ b. cond b false (nat_lt 4 (length (insert_range o (o + n) rs)))) far_is ∙ ap (nat_lt 4) count_is

    pub no_run : run_after o n rs ≡ 0
    no_run = ap (λ b. cond b (front_end (insert_range o (o + n) rs)) 0) far_is

    pub joined_is : ranges_after o n rs ≡ take count all
    joined_is = ap (λ b. cond b (lowered (front_end (insert_range o (o + n) rs)) (behind_front (insert_range o (o + n) rs))) (insert_range o (o + n) rs)) far_is ∙ sym is

    pub joined_apart : Apart 1 (take count all)
    joined_apart = subst (λ (l : List Range). Apart 1 l) (sym is) (Apart-insert_range rs 1 1 o (o + n) tidy.apart (omega arith) (omega (arith, far)) (omega arith))

pub take_of_take : (k m : ℕ) (xs : List Range) → k ≤ m → take k (take m xs) ≡ take k xs
take_of_take zero m xs h = refl
take_of_take (suc k) zero xs h = absurd (omega arith)
take_of_take (suc k) (suc m) [] h = refl
take_of_take (suc k) (suc m) (x ∷ xs) h = ap (λ (l : List Range). x ∷ l) (take_of_take k m xs (omega arith))

pub length-part : (k m : ℕ) (xs : List Range) → length xs ≡ 5 → m ≤ 5 → length (take (m - 1) (drop 1 xs)) ≡ m - 1
length-part k m xs long few = length-take (m - 1) (drop 1 xs) ∙ omega (arith, length-drop 1 xs, long, few)

abbrev pub ok : ℕ → Result ℕ TooManyHoles
ok k = Ok k

-- the same in the words of the call: the ranges held are the first count of an array, and with the addition they are the first m of `all`
module _ (o n : ℕ) (ranges all : List Range) (count m : ℕ) (rs : List Range) (view : take count ranges ≡ rs) (inv : (length ranges ≡ 4) × (count ≤ 4) × Apart 1 (take count ranges)) (some : 0 < n)
    (few : m ≤ 5) (first : 0 < m) (long : length all ≡ 5) (is : take m all ≡ insert_range o (o + n) (take count ranges)) where
  held_tidy : IsTidy rs
  held_tidy = record { apart = subst (λ (l : List Range). Apart 1 l) view inv.2; few = omega (arith, ap length (sym view), length-take count ranges, inv.0, inv.1) }

  with_added : take m all ≡ insert_range o (o + n) rs
  with_added = is ∙ ap (insert_range o (o + n)) view

  module _ (zero_o : o ≡ 0) where
    pub front_answered : ok (get_or all 0 (range 0 0)).end ≡ cond (is_refused o n rs) (Err (record {})) (ok (run_after o n rs))
    front_answered = ap (λ (k : ℕ). ok k) (run_is o n rs held_tidy some all m with_added first long few zero_o (range 0 0)) ∙ ap (λ b. cond b (Err (record {})) (ok (run_after o n rs))) (sym (not_refused o n rs held_tidy some all m with_added first long few zero_o))

    pub front_apart : (left : List Range) → take (length (take (m - 1) (drop 1 all))) left ≡ lowered (get_or all 0 (range 0 0)).end (take (m - 1) (drop 1 all)) → Apart 1 (take (m - 1) left)
    front_apart left low =
        lowered_apart o n rs held_tidy some all m with_added first long few zero_o left (m - 1)
        (lowered_is o n rs held_tidy some all m with_added first long few zero_o (range 0 0) _ left (length-part 0 m all long few) low)

  module _ (far : o ≡ 0 → ⊥) (fits : m ≤ 4) (left : List Range) (left_is : left ≡ take 4 all) where
    same_first : take m left ≡ take m all
    same_first = ap (λ (l : List Range). take m l) left_is ∙ take_of_take m 4 all fits

    pub added_apart : Apart 1 (take m left)
    added_apart = subst (λ (l : List Range). Apart 1 l) (sym same_first) (joined_apart o n rs held_tidy some all m with_added first long few far)

    pub added : take m left ≡ cond (is_refused o n rs) rs (ranges_after o n rs)
    added =
        same_first ∙ sym (joined_is o n rs held_tidy some all m with_added first long few far)
        ∙ ap (λ b. cond b rs (ranges_after o n rs)) (sym (refused_is o n rs held_tidy some all m with_added first long few far ∙ le-ltb 4 m fits))

pub ruleset additions = (front_answered, front_apart, added_apart, added)
