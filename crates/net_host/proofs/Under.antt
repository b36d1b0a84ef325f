-- The places under a key, one after the other.
use Rattle.std.proofs.Common.{◌≡◌, ◌∙◌, ℕ, ◌+◌, ◌^◌, ◌<◌, ◌≤◌, List, length, get_or, Bool, true, false, nat_lt, nat_eq, Option, Some, None, refl, sym, subst, ap, arith}
use Rattle.std.specs.Prelude.{if◌then◌else◌}
use Rattle.host_index.specs.declared.entry.Entry.{Entry}
use Rattle.host_index.specs.Entries.{IsSortedByRank, Splits, entry_at, has, nothing, rank, rank_at}
use Rattle.net_host.specs.Entries.{FindsUnder}
use Rattle.host_index.proofs.Entered.{IsIn, find_in, has_in, same_entry}

not_less : (es : List Entry) → IsSortedByRank es → (i j : ℕ) → i ≤ j → j < length es → rank_at es i ≤ rank_at es j
not_less es sorted i j order within = go (nat_eq i j) refl
  where
    go : (b : Bool) → nat_eq i j ≡ b → rank_at es i ≤ rank_at es j
    go true e =
        let same : i ≡ j = grind (arith, e) in
        let r : rank_at es i ≡ rank_at es j = ap (rank_at es) same in
        omega (arith, r)
    go false e =
        let less : i < j = grind (arith, e, order) in
        sorted i j less within

-- p is where the entries under the key begin, from the place `start` on
module _ (es : List Entry) (key : Entry) (start end p : ℕ) (splits : Splits es (rank (entry_at key start)) p) where
  stands_from : (k : ℕ) → start ≤ k → (i : IsIn es (entry_at key k)) → p ≤ i.place
  stands_from k least i = go (nat_lt i.place p) refl
    where
      go : (b : Bool) → nat_lt i.place p ≡ b → p ≤ i.place
      go true q =
          let r : rank_at es i.place ≡ rank (entry_at key k) = ap rank i.is in
          let l : rank_at es i.place < rank (entry_at key start) = splits.below i.place (grind (arith, q)) in
          omega (arith, r, l, least)
      go false q = grind (arith, q)

  pub none_at_end : length es ≤ p → FindsUnder es key start end None
  none_at_end past k least small h = go (find_in es (entry_at key k) h)
    where
      go : IsIn es (entry_at key k) → ⊥
      go i =
          let f : p ≤ i.place = stands_from k least i in
          let w : i.place < length es = i.within in
          omega (arith, past, f, w)

  module _ (e : Entry) (inside : p < length es) (is : e ≡ get_or es p nothing) where
    at : rank_at es p ≡ rank e
    at = sym (ap rank is)

    -- the entry at p is behind those under the key
    pub none_behind : key.place ≡ 0 → IsSortedByRank es → end ≤ 2 ^ 64 → rank key + 2 ^ 64 ≤ rank e → FindsUnder es key start end None
    none_behind zero sorted fits far k least small h = go (find_in es (entry_at key k) h)
      where
        go : IsIn es (entry_at key k) → ⊥
        go i =
            let f : p ≤ i.place = stands_from k least i in
            let r : rank_at es i.place ≡ rank (entry_at key k) = ap rank i.is in
            let t : rank_at es p ≤ rank_at es i.place = not_less es sorted p i.place f i.within in
            let a : rank_at es p ≡ rank e = at in
            omega (arith, r, t, a, far, small, fits, zero)

    -- it is not before them
    pub none_before : key.place ≡ 0 → rank e < rank key → FindsUnder es key start end None
    none_before zero less =
        let l : rank (entry_at key start) ≤ rank_at es p = splits.above p (omega arith) inside in
        let a : rank_at es p ≡ rank e = at in
        absurd (omega (arith, l, a, less, zero))

    -- it is under the key
    module _ (sorted : IsSortedByRank es) (major : e.major ≡ key.major) (minor : e.minor ≡ key.minor) where
      same : e ≡ entry_at key e.place
      same = same_entry e (entry_at key e.place) (grind (arith, major, minor))

      under : rank e ≡ rank (entry_at key e.place)
      under = ap rank same

      later : start ≤ e.place
      later =
          let l : rank (entry_at key start) ≤ rank_at es p = splits.above p (omega arith) inside in
          let a : rank_at es p ≡ rank e = at in
          let u : rank e ≡ rank (entry_at key e.place) = under in
          omega (arith, l, a, u)

      none_between : (k : ℕ) → start ≤ k → k < e.place → has es (entry_at key k) ≡ true → ⊥
      none_between k least less h = go (find_in es (entry_at key k) h)
        where
          go : IsIn es (entry_at key k) → ⊥
          go i =
              let f : p ≤ i.place = stands_from k least i in
              let r : rank_at es i.place ≡ rank (entry_at key k) = ap rank i.is in
              let t : rank_at es p ≤ rank_at es i.place = not_less es sorted p i.place f i.within in
              let a : rank_at es p ≡ rank e = at in
              let u : rank e ≡ rank (entry_at key e.place) = under in
              omega (arith, r, t, a, u, less)

      pub first_there : (o : Option ℕ) → o ≡ (if nat_lt e.place end then Some e.place else None) → FindsUnder es key start end o
      first_there o made = subst (λ r. FindsUnder es key start end r) (sym made) (go (nat_lt e.place end) refl)
        where
          go : (b : Bool) → nat_lt e.place end ≡ b → FindsUnder es key start end (if b then Some e.place else None)
          go true q = record {
            behind = later;
            within = grind (arith, q);
            listed = has_in es (entry_at key e.place) p inside (sym is ∙ same);
            before = none_between;
          }
          go false q = λ k least small. none_between k least (let past : end ≤ e.place = grind (arith, q) in omega (arith, past, small))
