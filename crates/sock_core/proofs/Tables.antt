-- Lemmas on ranges that are kept as places.
use Rattle.std.proofs.Common.{◌≡◌, ℕ, zero, suc, ◌+◌, ◌-◌, ◌%◌, ◌^◌, ◌<◌, ◌≤◌, Bool, true, false, cond, List, [], ◌∷◌, ◌++◌, length, take, drop, get_or, slice_get, min, max, refl, sym, ap, ap₂, subst, ◌∙◌, inl, inr, arith, length-take, length-drop}
use Rattle.std.proofs.lemmas.Bool.{cases_lt}
use Rattle.std.proofs.lemmas.List.{get_or-take, get_or-drop, same_lists, places}
use Rattle.std.specs.Prelude.{Some, None}
use Rattle.net_base.specs.declared.assembler.Range.{Range}
use Rattle.net_base.specs.Ranges.{range, Apart, IsTidy, insert_range, edges, lowered, front_end, behind_front, is_refused, run_after, ranges_after}
use Rattle.net_base.proofs.Sets.{insert_range_behind, insert_range_before, insert_range_joined, Apart-insert_range, Apart-lowered}
use Rattle.sock_core.specs.declared.ranges.Places.{Places}
use Rattle.sock_core.specs.HeldRanges.{HeldRanges, offset_of, place_at, offsets, AllNear, added, run_removed, table_answers, table_after, assembler_answers, assembler_after, taken, Agree}

abbrev held_ranges : ℕ → List Range → HeldRanges
held_ranges a l = record { front = a; ranges = l }

-- ---- places and offsets

pub offset_of_place : (f o : ℕ) → f < 2 ^ 32 → o < 2 ^ 32 → offset_of f (place_at f o) ≡ o
offset_of_place f o a b = omega arith

pub offset_moved : (f r p : ℕ) → f < 2 ^ 32 → r ≤ offset_of f p → offset_of (place_at f r) p ≡ offset_of f p - r
offset_moved f r p a b = omega arith

pub place_of_sum : (f a b : ℕ) → place_at (place_at f a) b ≡ place_at f (a + b)
place_of_sum f a b = omega arith

-- moving the front up to r lowers the offsets behind it
pub offsets_moved : (f r b : ℕ) (ps : List Places) → f < 2 ^ 32 → Apart b (offsets f ps) → r ≤ b → offsets (place_at f r) ps ≡ lowered r (offsets f ps)
offsets_moved f r b [] a apart low = refl
offsets_moved f r b (p ∷ ps) a apart low =
    (λ i. range (offset_moved f r p.start a (omega (arith, apart.0)) i) (offset_moved f r p.end a (omega (arith, apart.0, apart.1)) i) ∷ offsets_moved f r (offset_of f p.end + 1) ps a apart.2 (omega (arith, apart.0, apart.1)) i)

pub offsets-append : (f : ℕ) (ps qs : List Places) → offsets f (ps ++ qs) ≡ offsets f ps ++ offsets f qs
offsets-append f [] qs = refl
offsets-append f (p ∷ ps) qs = ap (λ (l : List Range). range (offset_of f p.start) (offset_of f p.end) ∷ l) (offsets-append f ps qs)

pub length-offsets : (f : ℕ) (ps : List Places) → length (offsets f ps) ≡ length ps
length-offsets f [] = refl
length-offsets f (p ∷ ps) = ap suc (length-offsets f ps)

-- ---- how far the ranges reach

pub near_insert : (rs : List Range) (lo hi : ℕ) → hi ≤ 2 ^ 30 → AllNear rs → AllNear (insert_range lo hi rs)
near_insert [] lo hi h near = (h, tt)
near_insert (r ∷ rs) lo hi h near = elim (cases_lt r.end lo) [
  | inl behind ↦ subst AllNear (sym (insert_range_behind lo hi r rs behind)) (near.0, near_insert rs lo hi h near.1)
  | inr reaches ↦ elim (cases_lt hi r.start) [
    | inl before ↦ subst AllNear (sym (insert_range_before lo hi r rs reaches before)) (h, near)
    | inr touches ↦ subst AllNear (sym (insert_range_joined lo hi r rs reaches touches)) (near_insert rs (min lo r.start) (max hi r.end) (omega (arith, near.0)) near.1)
  ]
]

pub near_lowered : (rs : List Range) (c : ℕ) → AllNear rs → AllNear (lowered c rs)
near_lowered [] c near = tt
near_lowered (r ∷ rs) c near = (omega (arith, near.0), near_lowered rs c near.1)

pub near_at : (rs : List Range) (i : ℕ) (d : Range) → AllNear rs → i < length rs → (get_or rs i d).end ≤ 2 ^ 30
near_at [] i d near h = absurd (omega arith)
near_at (r ∷ rs) zero d near h = near.0
near_at (r ∷ rs) (suc i) d near h = near_at rs i d near.1 (omega arith)

pub ordered_at : (rs : List Range) (i b : ℕ) (d : Range) → Apart b rs → i < length rs → (get_or rs i d).start < (get_or rs i d).end
ordered_at [] i b d apart h = absurd (omega arith)
ordered_at (r ∷ rs) zero b d apart h = apart.1
ordered_at (r ∷ rs) (suc i) b d apart h = ordered_at rs i (r.end + 1) d apart.2 (omega arith)

-- ---- the run from the front

-- the run leaves, and the others are kept as they were
module _ (f len run : ℕ) (held rest : List Places) (small : f < 2 ^ 32) (some : 0 < len) (short : len ≤ 2 ^ 30) (apart : Apart 1 (offsets f held)) (near : AllNear (offsets f held))
    (joined : insert_range 0 len (offsets f held) ≡ range 0 run ∷ offsets f rest) where
  first_apart : Apart 0 (range 0 run ∷ offsets f rest)
  first_apart = subst (λ (l : List Range). Apart 0 l) joined (Apart-insert_range (offsets f held) 1 0 0 len apart some (omega arith) (omega arith))

  first_near : AllNear (range 0 run ∷ offsets f rest)
  first_near = subst AllNear joined (near_insert (offsets f held) 0 len short near)

  pub run_short : run ≤ 2 ^ 30
  run_short = first_near.0

  joined_too : insert_range 0 (0 + len) (offsets f held) ≡ range 0 run ∷ offsets f rest
  joined_too = ap (λ n. insert_range 0 n (offsets f held)) {x = 0 + len} {y = len} (omega arith) ∙ joined

  pub run_is : run ≡ run_after 0 len (offsets f held)
  run_is = sym (ap front_end joined_too)

  moved : offsets (place_at f run) rest ≡ lowered run (offsets f rest)
  moved = offsets_moved f run (run + 1) rest small first_apart.2 (omega arith)

  pub rest_is : offsets (place_at f run) rest ≡ ranges_after 0 len (offsets f held)
  rest_is = moved ∙ sym (ap (λ (l : List Range). lowered (front_end l) (behind_front l)) joined_too)

  pub rest_apart : Apart 1 (offsets (place_at f run) rest)
  rest_apart = let one : run + 1 - run ≡ 1 = omega arith in subst (λ (l : List Range). Apart 1 l) (sym moved) (subst (λ n. Apart n (lowered run (offsets f rest))) one (Apart-lowered (offsets f rest) (run + 1) run first_apart.2 (omega arith)))

  pub rest_near : AllNear (offsets (place_at f run) rest)
  rest_near = subst AllNear (sym moved) (near_lowered (offsets f rest) run first_near.1)

-- ---- the table against the assembler

pub agree : (calls : List (ℕ × ℕ)) (h : HeldRanges) → Agree calls h
agree [] h = record { answers = refl; ranges = refl; front = ap (λ n. n % 2 ^ 32) {x = h.front} {y = h.front + 0} (omega arith) }
agree (c ∷ cs) h = let p = step (is_refused c.0 c.1 h.ranges) (agree cs (added c.0 c.1 h)) in record { answers = p.0; ranges = p.1; front = p.2 }
  where
    run : ℕ
    run = run_after c.0 c.1 h.ranges

    rest : List Range
    rest = ranges_after c.0 c.1 h.ranges

    moved : HeldRanges
    moved = run_removed c.0 c.1 h

    step : (b : Bool) → Agree cs (cond b h moved)
        → (cond b None (Some run) ∷ table_answers cs (cond b h moved) ≡ cond b None (Some run) ∷ assembler_answers cs (cond b h.ranges rest))
        × ((table_after cs (cond b h moved)).ranges ≡ assembler_after cs (cond b h.ranges rest))
        × ((table_after cs (cond b h moved)).front % 2 ^ 32 ≡ place_at h.front (taken (cond b None (Some run) ∷ table_answers cs (cond b h moved))))
    step true ih = (ap (λ l. None ∷ l) ih.answers, ih.ranges, ih.front)
    step false ih = (ap (λ l. Some run ∷ l) ih.answers, ih.ranges, ih.front ∙ place_of_sum h.front run (taken (table_answers cs moved)))

-- ---- what the table shows

pub edges_none : (rs : List Range) (i : ℕ) → length rs ≤ i → None ≡ slice_get (edges rs) i
edges_none [] i h = refl
edges_none (r ∷ rs) zero h = absurd (omega arith)
edges_none (r ∷ rs) (suc i) h = edges_none rs i (omega arith)

pub edges_some : (f : ℕ) (ps : List Places) (i : ℕ) (d : Places) → i < length ps → Some (offset_of f (get_or ps i d).start, offset_of f (get_or ps i d).end) ≡ slice_get (edges (offsets f ps)) i
edges_some f [] i d h = absurd (omega arith)
edges_some f (p ∷ ps) zero d h = refl
edges_some f (p ∷ ps) (suc i) d h = edges_some f ps i d (omega arith)

module _ (f first end : ℕ) (ps : List Places) (h : HeldRanges) (is : record { front = f; ranges = offsets f (take (end - first) (drop first ps)) } ≡ h) where
  pub ranges_is : h.ranges ≡ offsets f (take (end - first) (drop first ps))
  ranges_is = ap (λ (h : HeldRanges). h.ranges) (sym is)

  pub count_view : length ps ≡ 4 → first ≤ end → end ≤ 4 → length h.ranges ≡ end - first
  count_view long order most = ap (λ (l : List Range). length l) ranges_is ∙ length-offsets f (take (end - first) (drop first ps)) ∙ omega (arith, length-take (end - first) (drop first ps), length-drop first ps)

  pub tidy_view : length ps ≡ 4 → first ≤ end → end ≤ 4 → Apart 1 (offsets f (take (end - first) (drop first ps))) → IsTidy h.ranges
  tidy_view long order most apart = record { apart = subst (λ (l : List Range). Apart 1 l) (sym ranges_is) apart; few = omega (arith, count_view long order most) }

  pub get_none : (i : ℕ) → length ps ≡ 4 → first ≤ end → end ≤ 4 → end - first ≤ i → None ≡ slice_get (edges h.ranges) i
  get_none i long order most past = edges_none h.ranges i (omega (arith, count_view long order most))

  pub get_some : (i a b : ℕ) (d : Places) → length ps ≡ 4 → first ≤ end → end ≤ 4 → i < end - first
      → a ≡ offset_of f (get_or ps (first + i) d).start → b ≡ offset_of f (get_or ps (first + i) d).end → Some (a, b) ≡ slice_get (edges h.ranges) i
  get_some i a b d long order most below a_is b_is =
      let at : get_or (take (end - first) (drop first ps)) i d ≡ get_or ps (first + i) d = get_or-take (end - first) (drop first ps) i d below ∙ get_or-drop first ps i d in
      (λ j. Some ((a_is ∙ ap (λ (p : Places). offset_of f p.start) (sym at)) j, (b_is ∙ ap (λ (p : Places). offset_of f p.end) (sym at)) j))
      ∙ edges_some f (take (end - first) (drop first ps)) i d (omega (arith, length-take (end - first) (drop first ps), length-drop first ps))
      ∙ ap (λ (l : List Range). slice_get (edges l) i) (sym ranges_is)

-- the run from the front leaves, as a table shows it
module _ (f first end reached run len : ℕ) (ps : List Places) (h : HeldRanges) (is : record { front = f; ranges = offsets f (take (end - first) (drop first ps)) } ≡ h)
    (inv : (length ps ≡ 4) × (first ≤ end) × (end ≤ 4) × Apart 1 (offsets f (take (end - first) (drop first ps))) × AllNear (offsets f (take (end - first) (drop first ps))))
    (small : f < 2 ^ 32) (some : 0 < len) (short : len ≤ 2 ^ 30) (within : reached ≤ length (take (end - first) (drop first ps)))
    (joined : insert_range 0 len (offsets f (take (end - first) (drop first ps))) ≡ range 0 run ∷ offsets f (drop reached (take (end - first) (drop first ps)))) where
  left_is : take (end - (first + reached)) (drop (first + reached) ps) ≡ drop reached (take (end - first) (drop first ps))
  left_is = same_lists _ _ (grind (arith, places)) (λ i d h. grind (arith, places))

  pub table_run : run ≤ 2 ^ 30
  table_run = run_short f len run (take (end - first) (drop first ps)) (drop reached (take (end - first) (drop first ps))) small some short inv.3 inv.4 joined

  pub table_run_is : run ≡ run_after 0 len h.ranges
  table_run_is = run_is f len run (take (end - first) (drop first ps)) (drop reached (take (end - first) (drop first ps))) small some short inv.3 inv.4 joined ∙ ap (λ (h : HeldRanges). run_after 0 len h.ranges) is

  pub table_invariant : (length ps ≡ 4) × (first + reached ≤ end) × (end ≤ 4) × Apart 1 (offsets (place_at f run) (take (end - (first + reached)) (drop (first + reached) ps))) × AllNear (offsets (place_at f run) (take (end - (first + reached)) (drop (first + reached) ps)))
  table_invariant = (
    inv.0,
    omega (arith, inv.0, inv.1, inv.2, length-take (end - first) (drop first ps), length-drop first ps),
    inv.2,
    subst (λ (l : List Places). Apart 1 (offsets (place_at f run) l)) (sym left_is) (rest_apart f len run (take (end - first) (drop first ps)) (drop reached (take (end - first) (drop first ps))) small some short inv.3 inv.4 joined),
    subst (λ (l : List Places). AllNear (offsets (place_at f run) l)) (sym left_is) (rest_near f len run (take (end - first) (drop first ps)) (drop reached (take (end - first) (drop first ps))) small some short inv.3 inv.4 joined),
  )

  pub table_after_is : (a : ℕ) (l : List Range) → a ≡ place_at f run → l ≡ offsets (place_at f run) (take (end - (first + reached)) (drop (first + reached) ps))
      → held_ranges a l ≡ run_removed 0 len h
  table_after_is a l a_is l_is =
      ap₂ held_ranges
      (a_is ∙ ap (λ (h : HeldRanges). place_at h.front run) is ∙ ap (place_at h.front) table_run_is)
      (l_is ∙ ap (λ (l : List Places). offsets (place_at f run) l) left_is
      ∙ rest_is f len run (take (end - first) (drop first ps)) (drop reached (take (end - first) (drop first ps))) small some short inv.3 inv.4 joined
      ∙ ap (λ (h : HeldRanges). ranges_after 0 len h.ranges) is)

-- an addition behind the front, from the ranges as offsets
module _ (o n : ℕ) (rs joined : List Range) (far : 0 < o) (some : 0 < n) (short : o + n ≤ 2 ^ 30) (apart : Apart 1 rs) (near : AllNear rs) (is : joined ≡ insert_range o (o + n) rs) where
  pub behind_apart : Apart 1 joined
  behind_apart = subst (λ (l : List Range). Apart 1 l) (sym is) (Apart-insert_range rs 1 1 o (o + n) apart (omega arith) (omega arith) (omega arith))

  pub behind_near : AllNear joined
  behind_near = subst AllNear (sym is) (near_insert rs o (o + n) short near)

pub behind_invariant : (f count : ℕ) (ranges : List Range) (ps : List Places) → length ps ≡ 4 → count ≤ 4 → length ranges ≡ 5 → Apart 1 (take count ranges) → AllNear (take count ranges)
    → offsets f (take (length (take count ranges)) ps) ≡ take count ranges
    → (length ps ≡ 4) × (0 ≤ count) × (count ≤ 4) × Apart 1 (offsets f (take (count - 0) ps)) × AllNear (offsets f (take (count - 0) ps))
behind_invariant f count ranges ps long few enough apart near is =
    let all : count - 0 ≡ length (take count ranges) = omega (arith, length-take count ranges) in
    let same : offsets f (take (count - 0) ps) ≡ take count ranges = ap (λ j. offsets f (take j ps)) all ∙ is in
    (long, omega arith, few, subst (λ (l : List Range). Apart 1 l) (sym same) apart, subst AllNear (sym same) near)
