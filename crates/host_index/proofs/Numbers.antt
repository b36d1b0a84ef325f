-- The entries of numbers in order.
use Rattle.std.proofs.Common.{◌≡◌, ◌∙◌, ℕ, ◌+◌, ◌-◌, ◌*◌, ◌<◌, ◌≤◌, ◌/◌, List, [], ◌∷◌, ◌++◌, take, drop, length, get_or, Bool, true, false, nat_lt, nat_eq, suc, zero, refl, sym, subst, ap, arith}
use Rattle.std.specs.Prelude.{Some, None, slice_get}
use Rattle.std.specs.List.{insert, remove}
use mathlib.Core.List.{map}
use Rattle.std.proofs.lemmas.List.{get_or-map, length-map, map-append, take-map, drop-map}
use Rattle.host_index.specs.declared.columns.Columns.{Columns}
use Rattle.host_index.specs.declared.entry.Entry.{Entry}
use Rattle.std.proofs.lemmas.List.Edits.{get_or-insert_above, get_or-insert_at, get_or-insert_below, get_or-remove_above, get_or-remove_below, length-insert, length-remove}
use Rattle.host_index.proofs.Counting.{one_less}
use Rattle.host_index.specs.Columns.{Frees, Puts, entry_in, how_many, is_free}
use Rattle.host_index.specs.Entries.{IsSortedByRank, Splits, has, nothing, rank, rank_at}
use Rattle.host_index.specs.Indexing.{AreBefore, BeginBetween, IsAmong, IsIndex, IsOrdered, entries_in, number_at}

pub entry_of : (c : Columns) (os : List ℕ) (k : ℕ) → k < length os → get_or (entries_in c os) k nothing ≡ entry_in c (number_at os k)
entry_of c os k within = get_or-map (λ n. entry_in c n) os k 0 nothing within

pub rank_of : (c : Columns) (os : List ℕ) (k : ℕ) → k < length os → rank_at (entries_in c os) k ≡ rank (entry_in c (number_at os k))
rank_of c os k within = ap rank (entry_of c os k within)

pub as_many : (c : Columns) (os : List ℕ) → length (entries_in c os) ≡ length os
as_many c os = length-map os (λ n. entry_in c n)

pub sorted : (c : Columns) (os : List ℕ) → IsOrdered c os → IsSortedByRank (entries_in c os)
sorted c os h i j before within =
    let inside : j < length os = subst (λ n. j < n) (as_many c os) within in
    let p = rank_of c os i (omega (arith, before, inside)) in
    let q = rank_of c os j inside in
    let r : rank (entry_in c (number_at os i)) < rank (entry_in c (number_at os j)) = h i j before inside in
    omega (arith, p, q, r)

-- where the entries of a rank begin
pub splits : (c : Columns) (os : List ℕ) (n p : ℕ) → p ≤ length os → ((k : ℕ) → k < p → rank (entry_in c (number_at os k)) < n) → ((k : ℕ) → p ≤ k → k < length os → n ≤ rank (entry_in c (number_at os k))) → Splits (entries_in c os) n p
splits c os n p within below above = record {
  within = subst (λ m. p ≤ m) (sym (as_many c os)) within;
  below = λ k h. subst (λ m. m < n) (sym (rank_of c os k (omega (arith, h, within)))) (below k h);
  above = λ k h inside.
      let there : k < length os = subst (λ m. k < m) (as_many c os) inside in
      subst (λ m. n ≤ m) (sym (rank_of c os k there)) (above k h there);
}

-- where the first is not less, none is
pub first_splits : (c : Columns) (os : List ℕ) (n : ℕ) → IsOrdered c os → (0 < length os → n ≤ rank (entry_in c (number_at os 0))) → Splits (entries_in c os) n 0
first_splits c os n ordered first = splits c os n 0 (omega arith) (λ k h. absurd (omega (arith, h))) above
  where
    above : (k : ℕ) → 0 ≤ k → k < length os → n ≤ rank (entry_in c (number_at os k))
    above zero from within = first within
    above (suc k) from within =
        let p : n ≤ rank (entry_in c (number_at os 0)) = first (omega (arith, within)) in
        let q : rank (entry_in c (number_at os 0)) < rank (entry_in c (number_at os (suc k))) = ordered 0 (suc k) (omega arith) within in
        omega (arith, p, q)

-- where all before a place are less and it is not
pub splits_here : (c : Columns) (os : List ℕ) (n p : ℕ) → IsOrdered c os → p < length os → AreBefore c os n p → nat_lt (rank (entry_in c (number_at os p))) n ≡ false → Splits (entries_in c os) n p
splits_here c os n p ordered inside before not_less = splits c os n p (omega (arith, inside)) before.less above
  where
    here : n ≤ rank (entry_in c (number_at os p))
    here = grind (arith, not_less)

    above : (k : ℕ) → p ≤ k → k < length os → n ≤ rank (entry_in c (number_at os k))
    above k from within = by (nat_eq k p) refl
      where
        by : (b : Bool) → nat_eq k p ≡ b → n ≤ rank (entry_in c (number_at os k))
        by true q = subst (λ m. n ≤ rank (entry_in c (number_at os m))) (sym (grind (arith, q))) here
        by false q =
            let behind : rank (entry_in c (number_at os p)) < rank (entry_in c (number_at os k)) = ordered p k (grind (arith, q, from)) within in
            omega (arith, behind, here)

-- where all are less
pub splits_behind : (c : Columns) (os : List ℕ) (n : ℕ) → AreBefore c os n (length os) → Splits (entries_in c os) n (length os)
splits_behind c os n before = splits c os n (length os) (omega arith) before.less (λ k h there. absurd (omega (arith, h, there)))

-- the first of the entries, or none
pub first_is : (c : Columns) (os : List ℕ) (n : ℕ) (e : Entry) → slice_get os 0 ≡ Some n → e ≡ entry_in c n → get_or (entries_in c os) 0 nothing ≡ e
first_is c [] n e at is = cc
first_is c (o ∷ os) n e at is = ap (entry_in c) (out at) ∙ sym is
  where
    out : Some o ≡ Some n → o ≡ n
    out h = cc

pub none_in : (c : Columns) (os : List ℕ) (x : Entry) → slice_get os 0 ≡ None → has (entries_in c os) x ≡ false
unfolding has
none_in c [] x at = refl
none_in c (o ∷ os) x at = cc

-- none stands before the least key
pub least_splits : (es : List Entry) → Splits es (rank nothing) 0
least_splits es = record {
  within = omega arith;
  below = λ k h. absurd (omega (arith, h));
  above = λ k h inside. omega arith;
}

-- ---- a binary search

module _ (c : Columns) (os : List ℕ) (n m : ℕ) (ordered : IsOrdered c os) (within : m < length os) where
  abbrev at : ℕ → ℕ
  at k = rank (entry_in c (number_at os k))

  pub one_below : at m < n → (k : ℕ) → k < m + 1 → at k < n
  one_below less k below = go (nat_lt k m) refl
    where
      go : (b : Bool) → nat_lt k m ≡ b → at k < n
      go true e = let q : at k < at m = ordered k m (grind (arith, e)) within in omega (arith, q, less)
      go false e =
          let least : m ≤ k = grind (arith, e) in
          let same : m ≡ k = omega (arith, below, least) in
          subst (λ j. at j < n) same less

  pub one_above : n ≤ at m → (k : ℕ) → m ≤ k → k < length os → n ≤ at k
  one_above least k from inside = go (nat_lt m k) refl
    where
      go : (b : Bool) → nat_lt m k ≡ b → n ≤ at k
      go true e = let q : at m < at k = ordered m k (grind (arith, e)) inside in omega (arith, q, least)
      go false e =
          let most : k ≤ m = grind (arith, e) in
          let same : m ≡ k = omega (arith, from, most) in
          subst (λ j. n ≤ at j) same least

  -- a search goes on behind a place, or before it
  pub begin_behind : at m < n → BeginBetween c os n (m + 1) (length os)
  begin_behind less = record {
    order = omega (arith, within);
    within = omega arith;
    less = one_below less;
    more = λ k h there. absurd (omega (arith, h, there));
  }

  pub begin_before : nat_lt (at m) n ≡ false → BeginBetween c os n 0 m
  begin_before not_less = record {
    order = omega arith;
    within = omega (arith, within);
    less = λ k h. absurd (omega (arith, h));
    more = one_above (grind (arith, not_less));
  }

-- anywhere
pub begin_anywhere : (c : Columns) (os : List ℕ) (n : ℕ) → BeginBetween c os n 0 (length os)
begin_anywhere c os n = record {
  order = omega arith;
  within = omega arith;
  less = λ k h. absurd (omega (arith, h));
  more = λ k h there. absurd (omega (arith, h, there));
}

-- ---- one more, and one fewer

pub entries_with : (c : Columns) (os : List ℕ) (p n : ℕ) → entries_in c (insert os p n) ≡ insert (entries_in c os) p (entry_in c n)
entries_with c os p n =
    map-append (λ m. entry_in c m) (take p os) (n ∷ drop p os) ∙ ap (λ l. l ++ entry_in c n ∷ map (λ m. entry_in c m) (drop p os)) (sym (take-map (λ m. entry_in c m) p os))
    ∙ ap (λ l. take p (entries_in c os) ++ entry_in c n ∷ l) (sym (drop-map (λ m. entry_in c m) p os))

pub entries_without : (c : Columns) (os : List ℕ) (p : ℕ) → entries_in c (remove os p) ≡ remove (entries_in c os) p
entries_without c os p =
    map-append (λ m. entry_in c m) (take p os) (drop (suc p) os) ∙ ap (λ l. l ++ map (λ m. entry_in c m) (drop (suc p) os)) (sym (take-map (λ m. entry_in c m) p os))
    ∙ ap (λ l. take p (entries_in c os) ++ l) (sym (drop-map (λ m. entry_in c m) (suc p) os))

-- other columns with the same entries
pub same_entries : (c d : Columns) (os : List ℕ) → ((k : ℕ) → k < length os → entry_in d (number_at os k) ≡ entry_in c (number_at os k)) → entries_in d os ≡ entries_in c os
same_entries c d [] h = refl
same_entries c d (o ∷ os) h =
    ap (λ e. e ∷ entries_in d os) (h 0 (omega arith)) ∙ ap (λ l. entry_in c o ∷ l) (same_entries c d os (λ k within. h (suc k) (omega (arith, within))))

contrary : (i j p : ℕ) → nat_lt i p ≡ false → nat_lt j p ≡ true → i < j → ⊥
contrary i j p u v h = absurd (grind (arith, u, v, h))

beyond : (j p : ℕ) → nat_lt j p ≡ false → nat_eq j p ≡ false → p < j
beyond j p u v = grind (arith, u, v)

in_front : (j p : ℕ) → nat_lt j p ≡ true → j < p
in_front j p u = grind (arith, u)

from_there : (j p : ℕ) → nat_lt j p ≡ false → p ≤ j
from_there j p u = grind (arith, u)

meets : (p k : ℕ) → p ≤ k → nat_lt p k ≡ false → p ≡ k
meets p k h u = grind (arith, h, u)

not_at : (k p : ℕ) → k < p → nat_eq k p ≡ false
not_at k p h = grind (arith, h)

not_behind : (k p : ℕ) → p ≤ k → nat_eq (k + 1) p ≡ false
not_behind k p h = grind (arith, h)

differ : (m n : ℕ) → nat_eq m n ≡ false → n ≡ m → ⊥
differ m n u v = absurd (grind (arith, u, v))

pub equal : (m n : ℕ) → nat_eq m n ≡ true → m ≡ n
equal m n h = grind (arith, h)

pub not_free : true ≡ false → ⊥
not_free e = cc

-- a number that is free is not among those that are taken
pub is_new : (c : Columns) (os : List ℕ) (n k : ℕ) → is_free c n ≡ true → is_free c (number_at os k) ≡ false → nat_eq (number_at os k) n ≡ false
is_new c os n k free taken = go (nat_eq (number_at os k) n) refl
  where
    go : (b : Bool) → nat_eq (number_at os k) n ≡ b → b ≡ false
    go false e = refl
    go true e =
        let same : number_at os k ≡ n = equal (number_at os k) n e in
        absurd (not_free (sym free ∙ sym (ap (is_free c) same) ∙ taken))

module _ (c d : Columns) (os : List ℕ) (p n : ℕ) (e : Entry) (was : IsIndex c os) (put : Puts n e c d) (s : Splits (entries_in c os) (rank e) p) (behind : p < length os → rank e < rank (entry_in c (number_at os p))) where
  inside : p ≤ length os
  inside = subst (λ m. p ≤ m) (as_many c os) s.within

  other : (k : ℕ) → k < length os → nat_eq (number_at os k) n ≡ false
  other k within = is_new c os n k put.was_free (was.taken k within)

  same : (k : ℕ) → k < length os → entry_in d (number_at os k) ≡ entry_in c (number_at os k)
  same k within = put.others (number_at os k) (other k within)

  pub entries_put : entries_in d os ≡ entries_in c os
  entries_put = same_entries c d os same

  pub entries_added : entries_in d (insert os p n) ≡ insert (entries_in c os) p e
  entries_added = entries_with d os p n ∙ ap (λ l. insert l p (entry_in d n)) entries_put ∙ ap (insert (entries_in c os) p) put.here

  len : length (insert os p n) ≡ length os + 1
  len = length-insert os p n inside

  -- the ranks, old and new
  abbrev old : ℕ → ℕ
  old k = rank (entry_in c (number_at os k))

  abbrev new : ℕ → ℕ
  new k = rank (entry_in d (number_at (insert os p n) k))

  before : (k : ℕ) → k < p → new k ≡ old k
  before k h = ap (λ m. rank (entry_in d m)) (get_or-insert_below os p n 0 k h inside) ∙ ap rank (same k (omega (arith, h, inside)))

  here : new p ≡ rank e
  here = ap (λ m. rank (entry_in d m)) (get_or-insert_at os p n 0 inside) ∙ ap rank put.here

  shifted : (k : ℕ) → p ≤ k → k < length os → new (k + 1) ≡ old k
  shifted k h within = ap (λ m. rank (entry_in d m)) (get_or-insert_above os p n 0 k h inside) ∙ ap rank (same k within)

  less : (k : ℕ) → k < p → old k < rank e
  less k h = subst (λ m. m < rank e) (rank_of c os k (omega (arith, h, inside))) (s.below k h)

  more : (k : ℕ) → p ≤ k → k < length os → rank e < old k
  more k h within = go (nat_lt p k) refl
    where
      first : rank e < old p
      first = behind (omega (arith, h, within))

      go : (b : Bool) → nat_lt p k ≡ b → rank e < old k
      go true q = let r : old p < old k = was.ordered p k (in_front p k q) within in omega (arith, first, r)
      go false q =
          let at : p ≡ k = meets p k h q in
          subst (λ m. rank e < old m) at first

  -- by where one stands: in front, there, or behind
  ordered_at : (i j : ℕ) → i < j → j < length (insert os p n) → (a : Bool) → nat_lt i p ≡ a → (b : Bool) → nat_lt j p ≡ b → (f : Bool) → nat_eq i p ≡ f → (g : Bool) → nat_eq j p ≡ g → new i < new j
  ordered_at i j h within true u true v f x g y =
      let q : old i < old j = was.ordered i j h (let w : j < p = in_front j p v in omega (arith, w, inside)) in
      let y = before i (in_front i p u) in
      let z = before j (in_front j p v) in
      omega (arith, q, y, z)
  ordered_at i j h within true u false v f x true y =
      let at : p ≡ j = sym (equal j p y) in
      let q : old i < rank e = less i (in_front i p u) in
      let z = before i (in_front i p u) in
      subst (λ m. new i < new m) at (omega (arith, q, z, here))
  ordered_at i j h within true u false v f x false y =
      let w : p < j = beyond j p v y in
      let l : i < p = in_front i p u in
      let q : old i < rank e = less i l in
      let is : (j - 1) + 1 ≡ j = omega (arith, w) in
      let r : rank e < old (j - 1) = more (j - 1) (omega (arith, w)) (omega (arith, len, within, w)) in
      let z = before i l in
      let t : new j ≡ old (j - 1) = sym (ap new is) ∙ shifted (j - 1) (omega (arith, w)) (omega (arith, len, within, w)) in
      omega (arith, q, r, z, t)
  ordered_at i j h within false u true v f x g y = absurd (contrary i j p u v h)
  ordered_at i j h within false u false v true x g y =
      let at : p ≡ i = sym (equal i p x) in
      let w : p < j = omega (arith, at, h) in
      let is : (j - 1) + 1 ≡ j = omega (arith, w) in
      let r : rank e < old (j - 1) = more (j - 1) (omega (arith, w)) (omega (arith, len, within, w)) in
      let t : new j ≡ old (j - 1) = sym (ap new is) ∙ shifted (j - 1) (omega (arith, w)) (omega (arith, len, within, w)) in
      subst (λ m. new m < new j) at (omega (arith, r, t, here))
  ordered_at i j h within false u false v false x g y =
      let l : p < i = beyond i p u x in
      let w : p < j = omega (arith, l, h) in
      let is : (i - 1) + 1 ≡ i = omega (arith, l) in
      let js : (j - 1) + 1 ≡ j = omega (arith, w) in
      let q : old (i - 1) < old (j - 1) = was.ordered (i - 1) (j - 1) (omega (arith, l, h)) (omega (arith, len, within, w)) in
      let z : new i ≡ old (i - 1) = sym (ap new is) ∙ shifted (i - 1) (omega (arith, l)) (omega (arith, len, within, h, l)) in
      let t : new j ≡ old (j - 1) = sym (ap new js) ∙ shifted (j - 1) (omega (arith, w)) (omega (arith, len, within, w)) in
      omega (arith, q, z, t)

  taken_at : (k : ℕ) → k < length (insert os p n) → (a : Bool) → nat_lt k p ≡ a → (b : Bool) → nat_eq k p ≡ b → is_free d (number_at (insert os p n) k) ≡ false
  taken_at k within true u b v =
      let l : k < p = in_front k p u in
      let there : k < length os = omega (arith, l, inside) in
      ap (is_free d) (get_or-insert_below os p n 0 k l inside) ∙ put.others_free (number_at os k) (other k there) ∙ was.taken k there
  taken_at k within false u true v =
      let at : k ≡ p = equal k p v in
      ap (λ m. is_free d (number_at (insert os p n) m)) at ∙ ap (is_free d) (get_or-insert_at os p n 0 inside) ∙ put.taken
  taken_at k within false u false v =
      let l : p < k = beyond k p u v in
      let is : k ≡ (k - 1) + 1 = omega (arith, l) in
      let there : k - 1 < length os = omega (arith, len, within, l) in
      ap (λ m. is_free d (number_at (insert os p n) m)) is ∙ ap (is_free d) (get_or-insert_above os p n 0 (k - 1) (omega (arith, l)) inside) ∙ put.others_free (number_at os (k - 1)) (other (k - 1) there) ∙ was.taken (k - 1) there

  shifted_in : (m : ℕ) → IsAmong os m → IsAmong (insert os p n) m
  shifted_in m i = by (nat_lt i.place p) refl
    where
      by : (b : Bool) → nat_lt i.place p ≡ b → IsAmong (insert os p n) m
      by true q = record { place = i.place; within = (let w = i.within in omega (arith, len, w)); is = get_or-insert_below os p n 0 i.place (in_front i.place p q) inside ∙ i.is }
      by false q = record { place = i.place + 1; within = (let w = i.within in omega (arith, len, w)); is = get_or-insert_above os p n 0 i.place (from_there i.place p q) inside ∙ i.is }

  listed_still : (m : ℕ) → m / 2 < length d.majors.items → nat_eq m n ≡ false → is_free d m ≡ false → IsAmong os m
  listed_still m there apart is = was.listed m (omega (arith, there, put.len)) (sym (put.others_free m apart) ∙ is)

  listed_at : (m : ℕ) → m / 2 < length d.majors.items → (b : Bool) → nat_eq m n ≡ b → is_free d m ≡ false → IsAmong (insert os p n) m
  listed_at m there true q is = record { place = p; within = omega (arith, len, inside); is = get_or-insert_at os p n 0 inside ∙ sym (equal m n q) }
  listed_at m there false q is = shifted_in m (listed_still m there q is)

  inside_at : (k : ℕ) → k < length (insert os p n) → (a : Bool) → nat_lt k p ≡ a → (b : Bool) → nat_eq k p ≡ b → number_at (insert os p n) k < 2 * length d.majors.items
  inside_at k within true u b v =
      let l : k < p = in_front k p u in
      let i : number_at os k < 2 * length c.majors.items = was.inside k (omega (arith, l, inside)) in
      let e = get_or-insert_below os p n 0 k l inside in
      omega (arith, i, e, put.len)
  inside_at k within false u true v =
      let at : k ≡ p = equal k p v in
      subst (λ m. number_at (insert os p n) m < 2 * length d.majors.items) (sym at)
      (let e = get_or-insert_at os p n 0 inside in omega (arith, e, put.len, put.within))
  inside_at k within false u false v =
      let l : p < k = beyond k p u v in
      let is : (k - 1) + 1 ≡ k = omega (arith, l) in
      let i : number_at os (k - 1) < 2 * length c.majors.items = was.inside (k - 1) (omega (arith, len, within, l)) in
      subst (λ m. number_at (insert os p n) m < 2 * length d.majors.items) is
      (let e = get_or-insert_above os p n 0 (k - 1) (omega (arith, l)) inside in omega (arith, i, e, put.len))

  counted_now : length (insert os p n) + how_many (λ m. is_free d m) (2 * length d.majors.items) ≡ 2 * length d.majors.items
  counted_now =
      let a = one_less (λ m. is_free c m) (λ m. is_free d m) n (2 * length c.majors.items) put.within put.was_free put.taken put.others_free in
      let w = was.counted in
      let m : 2 * length d.majors.items ≡ 2 * length c.majors.items = omega (arith, put.len) in
      subst (λ t. length (insert os p n) + how_many (λ m. is_free d m) t ≡ t) (sym m) (omega (arith, a, w, len))

  with_one : IsIndex d (insert os p n)
  with_one = record {
    inside = λ k within. inside_at k within (nat_lt k p) refl (nat_eq k p) refl;
    counted = counted_now;
    as_many = put.as_many;
    ordered = λ i j h within. ordered_at i j h within (nat_lt i p) refl (nat_lt j p) refl (nat_eq i p) refl (nat_eq j p) refl;
    taken = λ k within. taken_at k within (nat_lt k p) refl (nat_eq k p) refl;
    listed = λ m there. listed_at m there (nat_eq m n) refl;
  }

  -- as the calls say it
  pub added : (qs : List ℕ) → qs ≡ insert os p n → IsIndex d qs
  added qs is = subst (IsIndex d) (sym is) with_one

  pub entries_now : (qs : List ℕ) → qs ≡ insert os p n → entries_in d qs ≡ insert (entries_in c os) p e
  entries_now qs is = ap (entries_in d) is ∙ entries_added

module _ (c d : Columns) (os : List ℕ) (p : ℕ) (within : p < length os) (was : IsIndex c os) (frees : Frees (number_at os p) c d) where
  len_less : length (remove os p) + 1 ≡ length os
  len_less = length-remove os p within

  -- no number stands there twice
  once : (k : ℕ) → k < length os → (nat_eq k p ≡ false) → nat_eq (number_at os k) (number_at os p) ≡ false
  once k inside h = go (nat_eq (number_at os k) (number_at os p)) refl (nat_lt k p) refl
    where
      less : (m n : ℕ) → m < n → m ≡ n → ⊥
      less m n q r = absurd (omega (arith, q, r))

      go : (b : Bool) → nat_eq (number_at os k) (number_at os p) ≡ b → (f : Bool) → nat_lt k p ≡ f → b ≡ false
      go false e f u = refl
      go true e true u = absurd (less _ _ (was.ordered k p (in_front k p u) within) (ap (λ m. rank (entry_in c m)) (equal (number_at os k) (number_at os p) e)))
      go true e false u = absurd (less _ _ (was.ordered p k (beyond k p u h) inside) (ap (λ m. rank (entry_in c m)) (sym (equal (number_at os k) (number_at os p) e))))

  -- where the number at k stood before
  abbrev from : ℕ → Bool → ℕ
  from k true = k
  from k false = k + 1

  stood : (k : ℕ) (b : Bool) → nat_lt k p ≡ b → number_at (remove os p) k ≡ number_at os (from k b)
  stood k true u = get_or-remove_below os p 0 k (in_front k p u) within
  stood k false u = get_or-remove_above os p 0 k (from_there k p u) within

  apart : (k : ℕ) (b : Bool) → nat_lt k p ≡ b → nat_eq (from k b) p ≡ false
  apart k true u = not_at k p (in_front k p u)
  apart k false u = not_behind k p (from_there k p u)

  there : (k : ℕ) → k < length (remove os p) → (b : Bool) → from k b < length os
  there k inside true = omega (arith, len_less, inside)
  there k inside false = omega (arith, len_less, inside)

  kept : (k : ℕ) → k < length (remove os p) → (b : Bool) → nat_lt k p ≡ b → entry_in d (number_at (remove os p) k) ≡ entry_in c (number_at os (from k b))
  kept k inside b u = ap (entry_in d) (stood k b u) ∙ frees.others (number_at os (from k b)) (once (from k b) (there k inside b) (apart k b u))

  same_now : (k : ℕ) → k < length (remove os p) → entry_in d (number_at (remove os p) k) ≡ entry_in c (number_at (remove os p) k)
  same_now k inside = kept k inside (nat_lt k p) refl ∙ ap (entry_in c) (sym (stood k (nat_lt k p) refl))

  pub entries_removed : entries_in d (remove os p) ≡ remove (entries_in c os) p
  entries_removed = same_entries c d (remove os p) same_now ∙ entries_without c os p

  onward : (i j : ℕ) → i < j → (a : Bool) → nat_lt i p ≡ a → (b : Bool) → nat_lt j p ≡ b → from i a < from j b
  onward i j h true u true v = h
  onward i j h true u false v = omega (arith, h)
  onward i j h false u true v = absurd (contrary i j p u v h)
  onward i j h false u false v = omega (arith, h)

  shifted_out : (m : ℕ) → nat_eq m (number_at os p) ≡ false → IsAmong os m → IsAmong (remove os p) m
  shifted_out m other i = by (nat_lt i.place p) refl (nat_eq i.place p) refl
    where
      by : (b : Bool) → nat_lt i.place p ≡ b → (f : Bool) → nat_eq i.place p ≡ f → IsAmong (remove os p) m
      by true q f r = record { place = i.place; within = (let h = in_front i.place p q in omega (arith, len_less, within, h)); is = get_or-remove_below os p 0 i.place (in_front i.place p q) within ∙ i.is }
      by false q true r =
          let same : number_at os p ≡ m = sym (ap (number_at os) (equal i.place p r)) ∙ i.is in
          absurd (differ m (number_at os p) other same)
      by false q false r =
          let h : p < i.place = beyond i.place p q r in
          let w = i.within in
          let k : (i.place - 1) + 1 ≡ i.place = omega (arith, h) in
          record { place = i.place - 1; within = omega (arith, len_less, w, h); is = get_or-remove_above os p 0 (i.place - 1) (omega (arith, h)) within ∙ ap (number_at os) k ∙ i.is }

  listed_less : (m : ℕ) → m / 2 < length c.majors.items → (b : Bool) → nat_eq m (number_at os p) ≡ b → is_free d m ≡ false → IsAmong (remove os p) m
  listed_less m there true q is = absurd (not_free (sym (subst (λ k. is_free d k ≡ true) (sym (equal m (number_at os p) q)) (frees.freed (subst (λ k. k / 2 < length c.majors.items) (equal m (number_at os p) q) there))) ∙ is))
  listed_less m there false q is = shifted_out m q (was.listed m there (sym (frees.others_free m q) ∙ is))

  inside_still : (k : ℕ) → k < length (remove os p) → number_at (remove os p) k < 2 * length d.majors.items
  inside_still k less =
      let i : number_at os (from k (nat_lt k p)) < 2 * length c.majors.items = was.inside (from k (nat_lt k p)) (there k less (nat_lt k p)) in
      let e = stood k (nat_lt k p) refl in
      omega (arith, i, e, frees.len)

  counted_still : length (remove os p) + how_many (λ m. is_free d m) (2 * length d.majors.items) ≡ 2 * length d.majors.items
  counted_still =
      let n : number_at os p < 2 * length c.majors.items = was.inside p within in
      let a = one_less (λ m. is_free d m) (λ m. is_free c m) (number_at os p) (2 * length c.majors.items) n (frees.freed (omega (arith, n))) (was.taken p within) (λ k h. sym (frees.others_free k h)) in
      let w = was.counted in
      let m : 2 * length d.majors.items ≡ 2 * length c.majors.items = omega (arith, frees.len) in
      subst (λ t. length (remove os p) + how_many (λ m. is_free d m) t ≡ t) (sym m) (omega (arith, a, w, len_less))

  pub removed : IsIndex d (remove os p)
  removed = record {
    inside = inside_still;
    counted = counted_still;
    as_many = frees.as_many;
    ordered = λ i j h inside.
        let q : rank (entry_in c (number_at os (from i (nat_lt i p)))) < rank (entry_in c (number_at os (from j (nat_lt j p)))) = was.ordered (from i (nat_lt i p)) (from j (nat_lt j p)) (onward i j h (nat_lt i p) refl (nat_lt j p) refl) (there j inside (nat_lt j p)) in
        let y = ap rank (kept i (omega (arith, h, inside)) (nat_lt i p) refl) in
        let z = ap rank (kept j inside (nat_lt j p) refl) in
        omega (arith, q, y, z);
    taken = λ k inside. ap (is_free d) (stood k (nat_lt k p) refl) ∙ frees.others_free (number_at os (from k (nat_lt k p))) (once (from k (nat_lt k p)) (there k inside (nat_lt k p)) (apart k (nat_lt k p) refl)) ∙ was.taken (from k (nat_lt k p)) (there k inside (nat_lt k p));
    listed = λ m there. listed_less m (omega (arith, there, frees.len)) (nat_eq m (number_at os p)) refl;
  }

-- ---- where a key stands

pub stands_there : (c : Columns) (os : List ℕ) (n p : ℕ) → IsIndex c os → n / 2 < length c.majors.items → is_free c n ≡ false → Splits (entries_in c os) (rank (entry_in c n)) p → (p < length os) × (number_at os p ≡ n)
stands_there c os n p index there taken s = go (nat_lt q.place p) refl (nat_eq q.place p) refl
  where
    q : IsAmong os n
    q = index.listed n there taken

    rank_q : rank_at (entries_in c os) q.place ≡ rank (entry_in c n)
    rank_q = rank_of c os q.place q.within ∙ ap (λ m. rank (entry_in c m)) q.is

    go : (a : Bool) → nat_lt q.place p ≡ a → (b : Bool) → nat_eq q.place p ≡ b → (p < length os) × (number_at os p ≡ n)
    go true u b v =
        let below : rank_at (entries_in c os) q.place < rank (entry_in c n) = s.below q.place (in_front q.place p u) in
        absurd (omega (arith, below, rank_q))
    go false u true v =
        let at : q.place ≡ p = equal q.place p v in
        (subst (λ k. k < length os) at q.within, sym (ap (number_at os) at) ∙ q.is)
    go false u false v =
        let less : p < q.place = beyond q.place p u v in
        let w = q.within in
        let here : p < length (entries_in c os) = subst (λ m. p < m) (sym (as_many c os)) (omega (arith, less, w)) in
        let above : rank (entry_in c n) ≤ rank_at (entries_in c os) p = s.above p (omega arith) here in
        let r = rank_of c os p (omega (arith, less, w)) in
        let o : rank (entry_in c (number_at os p)) < rank (entry_in c (number_at os q.place)) = index.ordered p q.place less w in
        let t : rank (entry_in c (number_at os q.place)) ≡ rank (entry_in c n) = ap (λ m. rank (entry_in c m)) q.is in
        absurd (omega (arith, above, r, o, t))
