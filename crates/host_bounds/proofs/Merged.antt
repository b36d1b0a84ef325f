-- Bounds out of marks and times.
use Rattle.std.proofs.Common.{◌≡◌, ◌∙◌, ℕ, ℤ, ◌+◌, ◌/◌, ◌%◌, ◌<◌, ◌≤◌, Bool, true, false, List, [], ◌∷◌, length, get_or, nat_eq, nat_lt, suc, zero, refl, sym, ap, subst, arith}
use Rattle.std.specs.Prelude.{◌≤ℤ◌, ◌<ℤ◌, slice_set, if◌then◌else◌}
use Rattle.std.specs.List.{All}
use Rattle.std.proofs.lemmas.Int.{ints}
use Rattle.std.proofs.lemmas.List.{ext_get_or, get_or-set_same, get_or_past, length-set}
use Rattle.std.proofs.lemmas.Nat.Bits.{bit_at-lt}
use Rattle.std.proofs.lemmas.List.Elements.{All-from_get_or, All-get_or}
use Rattle.host_bounds.specs.Bounding.{IsBelowAll, IsGreatest, at_once, bound_at}
use Rattle.host_bounds.specs.Marking.{AllMarked, AreBounds, Clears, IsFirstMark, Sets, bit_of, merged}
use Rattle.host_bounds.proofs.Layers.{set_elsewhere}

pub merged_len : (i : ℕ) (ws : List ℕ) (ts : List ℤ) → length (merged i ws ts) ≡ length ts
unfolding merged
merged_len i ws [] = refl
merged_len i ws (t ∷ ts) = ap suc (merged_len (suc i) ws ts)

either : (b : Bool) (m : ℤ) → (if b then m else m) ≡ m
either true m = refl
either false m = refl

merged_at : (i : ℕ) (ws : List ℕ) (ts : List ℤ) (k : ℕ) → bound_at (merged i ws ts) k ≡ (if nat_eq (bit_of ws (i + k)) 1 then at_once else bound_at ts k)
unfolding merged
merged_at i ws [] k = sym (either (nat_eq (bit_of ws (i + k)) 1) at_once)
merged_at i ws (t ∷ ts) zero = ap (λ n. if nat_eq (bit_of ws n) 1 then at_once else t) (add_zero i)
  where
    add_zero : (n : ℕ) → n ≡ n + 0
    add_zero n = omega arith
merged_at i ws (t ∷ ts) (suc k) = merged_at (suc i) ws ts k ∙ ap (λ n. if nat_eq (bit_of ws n) 1 then at_once else bound_at ts k) (add_suc i k)
  where
    add_suc : (n m : ℕ) → suc n + m ≡ n + suc m
    add_suc n m = omega arith

pub merged_is : (ws : List ℕ) (ts : List ℤ) (k : ℕ) → bound_at (merged 0 ws ts) k ≡ (if nat_eq (bit_of ws k) 1 then at_once else bound_at ts k)
merged_is ws ts k = merged_at 0 ws ts k ∙ ap (λ n. if nat_eq (bit_of ws n) 1 then at_once else bound_at ts k) (none_more k)
  where
    none_more : (n : ℕ) → 0 + n ≡ n
    none_more n = omega arith

pub marked_is : (ws : List ℕ) (ts : List ℤ) (k : ℕ) → bit_of ws k ≡ 1 → bound_at (merged 0 ws ts) k ≡ at_once
marked_is ws ts k h = merged_is ws ts k ∙ ap (λ n. if nat_eq n 1 then at_once else bound_at ts k) h

pub timed_is : (ws : List ℕ) (ts : List ℤ) (k : ℕ) → bit_of ws k ≡ 0 → bound_at (merged 0 ws ts) k ≡ bound_at ts k
timed_is ws ts k h = merged_is ws ts k ∙ ap (λ n. if nat_eq n 1 then at_once else bound_at ts k) h

pub off_is : (ws : List ℕ) (ts : List ℤ) (k : ℕ) → nat_eq (bit_of ws k) 1 ≡ false → bound_at (merged 0 ws ts) k ≡ bound_at ts k
off_is ws ts k h = merged_is ws ts k ∙ ap (λ b. if b then at_once else bound_at ts k) h

pub within_times : (ws : List ℕ) (ts bs : List ℤ) (k : ℕ) → merged 0 ws ts ≡ bs → k < length bs → k < length ts
within_times ws ts bs k is h = subst (λ n. k < n) (merged_len 0 ws ts) (subst (λ l. k < length l) (sym is) h)

-- a place that is marked, and one that has a time
module _ (ws us : List ℕ) (ts : List ℤ) (place : ℕ) (there : place < length ts) where
  set_at : (us : List ℕ) (bs : List ℤ) (m : ℤ) → length bs ≡ length ts → bound_at (merged 0 us bs) place ≡ m → ((k : ℕ) → nat_eq k place ≡ false → bound_at (merged 0 us bs) k ≡ bound_at (merged 0 ws ts) k) → merged 0 us bs ≡ slice_set (merged 0 ws ts) place m
  set_at us bs m many here others = ext_get_or at_once (merged 0 us bs) (slice_set (merged 0 ws ts) place m) (len ∙ sym (length-set (merged 0 ws ts) place m)) (λ k within. at k (nat_eq k place) refl)
    where
      len : length (merged 0 us bs) ≡ length (merged 0 ws ts)
      len = merged_len 0 us bs ∙ many ∙ sym (merged_len 0 ws ts)

      inside : place < length (merged 0 ws ts)
      inside = subst (λ n. place < n) (sym (merged_len 0 ws ts)) there

      at : (k : ℕ) (b : Bool) → nat_eq k place ≡ b → bound_at (merged 0 us bs) k ≡ bound_at (slice_set (merged 0 ws ts) place m) k
      at k true e =
          let same : k ≡ place = grind (arith, e) in
          ap (λ n. bound_at (merged 0 us bs) n) same ∙ here ∙ sym (get_or-set_same (merged 0 ws ts) place m at_once inside) ∙ ap (λ n. bound_at (slice_set (merged 0 ws ts) place m) n) (sym same)
      at k false e = others k e ∙ sym (set_elsewhere (merged 0 ws ts) k place m e)

  pub now_marked : Sets place ws us → merged 0 us ts ≡ slice_set (merged 0 ws ts) place at_once
  now_marked sets = set_at us ts at_once refl (marked_is us ts place sets.here) (λ k e. merged_is us ts k ∙ ap (λ n. if nat_eq n 1 then at_once else bound_at ts k) (sets.others k e) ∙ sym (merged_is ws ts k))

  pub now_timed : (m : ℤ) → Clears place ws us → merged 0 us (slice_set ts place m) ≡ slice_set (merged 0 ws ts) place m
  now_timed m clears = set_at us (slice_set ts place m) m (length-set ts place m) (timed_is us (slice_set ts place m) place clears.here ∙ get_or-set_same ts place m at_once there) (λ k e. merged_is us (slice_set ts place m) k ∙ ap (λ n. if nat_eq n 1 then at_once else bound_at (slice_set ts place m) k) (clears.others k e) ∙ ap (λ b. if nat_eq (bit_of ws k) 1 then at_once else b) (set_elsewhere ts k place m e) ∙ sym (merged_is ws ts k))

  pub marks_bounds : Sets place ws us → AreBounds ws ts → AreBounds us ts
  marks_bounds sets was = record { reach = λ k h. subst (λ n. k / 64 < n) (sym sets.len) (was.reach k h); floor = was.floor }

  pub times_bounds : (m : ℤ) → at_once <ℤ m → Clears place ws us → AreBounds ws ts → AreBounds us (slice_set ts place m)
  times_bounds m later clears was = record {
    reach = λ k h. subst (λ n. k / 64 < n) (sym clears.len) (was.reach k (subst (λ n. k < n) (length-set ts place m) h));
    floor = λ k. floor k (nat_eq k place) refl;
  }
    where
      floor : (k : ℕ) (b : Bool) → nat_eq k place ≡ b → at_once ≤ℤ bound_at (slice_set ts place m) k
      floor k true e =
          let same : k ≡ place = grind (arith, e) in
          let p : bound_at (slice_set ts place m) k ≡ m = ap (λ n. bound_at (slice_set ts place m) n) same ∙ get_or-set_same ts place m at_once there in
          grind (arith, ints, p, later)
      floor k false e = subst (λ z. at_once ≤ℤ z) (sym (set_elsewhere ts k place m e)) (was.floor k)

-- a place that is not marked is as one whose mark was taken off
pub was_clear : (ws : List ℕ) (place : ℕ) → nat_eq (bit_of ws place) 1 ≡ false → Clears place ws ws
was_clear ws place off = record {
  len = refl;
  here = (let less : bit_of ws place < 2 = bit_at-lt (get_or ws (place / 64) 0) (place % 64) in grind (arith, less, off));
  others = λ k h. refl;
}

-- all are marked
pub all_at_once : (ws : List ℕ) (ts : List ℤ) → AllMarked ws → ((k : ℕ) → k < length ts → k / 64 < length ws) → All (λ b. b ≡ at_once) (merged 0 ws ts)
all_at_once ws ts all reach = All-from_get_or (λ b. b ≡ at_once) (merged 0 ws ts) at_once (λ k h. marked_is ws ts k (all k (reach k (subst (λ n. k < n) (merged_len 0 ws ts) h))))

pub floor_of_least : (ts : List ℤ) → All (λ m. m ≡ at_once) ts → (k : ℕ) → at_once ≤ℤ bound_at ts k
floor_of_least ts all k = subst (λ m. at_once ≤ℤ m) (sym (at (nat_lt k (length ts)) refl)) (grind (arith, ints))
  where
    at : (b : Bool) → nat_lt k (length ts) ≡ b → bound_at ts k ≡ at_once
    at true e = All-get_or (λ m. m ≡ at_once) ts k at_once (grind (arith, e)) all
    at false e = get_or_past ts k at_once (grind (arith, e))

pub first_of_any : (ws : List ℕ) (count : ℕ) → AllMarked ws → ((k : ℕ) → k < count → k / 64 < length ws) → IsFirstMark ws count 0 false
first_of_any ws count all reach = record {
  marked = λ there. all 0 (reach 0 there);
  before = λ k before. absurd (omega (arith, before));
  behind = λ h. absurd (grind (arith, h));
}

-- before what is not marked
pub none_asked : (ws : List ℕ) (ts : List ℤ) (start stop : ℕ) (now : ℤ) → ((k : ℕ) → start ≤ k → k < stop → bit_of ws k ≡ 0) → ((k : ℕ) → start ≤ k → k < stop → now <ℤ bound_at ts k) → (k : ℕ) → start ≤ k → k < stop → now <ℤ bound_at (merged 0 ws ts) k
none_asked ws ts start stop now unmarked after k from to = subst (λ b. now <ℤ b) (sym (timed_is ws ts k (unmarked k from to))) (after k from to)

pub floor_of_all : (ws : List ℕ) (ts : List ℤ) → AreBounds ws ts → IsBelowAll at_once (merged 0 ws ts)
floor_of_all ws ts was k within = subst (λ b. at_once ≤ℤ b) (sym (merged_is ws ts k)) (by (nat_eq (bit_of ws k) 1))
  where
    by : (b : Bool) → at_once ≤ℤ (if b then at_once else bound_at ts k)
    by true = grind (arith, ints)
    by false = was.floor k

pub below_times : (ws : List ℕ) (ts : List ℤ) (m : ℤ) → ((k : ℕ) → k < length ts → bit_of ws k ≡ 0) → IsBelowAll m ts → IsBelowAll m (merged 0 ws ts)
below_times ws ts m unmarked below k within =
    let there : k < length ts = subst (λ n. k < n) (merged_len 0 ws ts) within in
    subst (λ b. m ≤ℤ b) (sym (timed_is ws ts k (unmarked k there))) (below k there)

pub greatest_times : (ws : List ℕ) (ts : List ℤ) (m : ℤ) → ((k : ℕ) → k < length ts → bit_of ws k ≡ 0) → IsGreatest m ts → IsGreatest m (merged 0 ws ts)
greatest_times ws ts m unmarked greatest n most below = greatest n most (λ k there. subst (λ b. n ≤ℤ b) (timed_is ws ts k (unmarked k there)) (below k (subst (λ i. k < i) (sym (merged_len 0 ws ts)) there)))
