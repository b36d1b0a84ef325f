-- A walk through the entries under a key.
use Rattle.std.proofs.Common.{◌≡◌, ◌∙◌, ℕ, ◌+◌, ◌^◌, ◌<◌, ◌≤◌, List, length, get_or, Bool, true, false, nat_lt, nat_eq, Option, Some, None, refl, sym, subst, ap, arith}
use Rattle.std.specs.Prelude.{IfSome, slice_get}
use Rattle.std.proofs.lemmas.Option.{slice_get_past, slice_get_within}
use Rattle.host_index.specs.declared.entry.Entry.{Entry}
use Rattle.host_index.specs.Entries.{IsFirst, IsSortedByRank, Splits, entry_at, has, nothing, rank, rank_at}
use Rattle.net_host.specs.Entries.{FindsListed, IsFirstListed}
use Rattle.net_host.specs.Walks.{IsAt}
use Rattle.host_index.proofs.Entered.{IsIn, find_in}

pub weaker : {X : Type 0} (P Q : X → Type 0) (o : Option X) → ((y : X) → P y → Q y) → IfSome o P → IfSome o Q
weaker P Q None f h = tt
weaker P Q (Some y) f h = f y h

pub always : {X : Type 0} (Q : X → Type 0) (o : Option X) → ((y : X) → Q y) → IfSome o Q
always Q None f = tt
always Q (Some y) f = f y

no_truth : false ≡ true → ⊥
no_truth e = cc

-- the first place under the key, where P holds of its element
pub known_fits : {X : Type 0} (P : X → Type 0) (xs : List X) (es : List Entry) (key : Entry) (place : ℕ) → IsFirst es key place → IsAt P xs place → IsFirstListed P xs es key place
known_fits P xs es key place first at = record {
  holds = at.holds;
  within = at.within;
  before = λ k less listed. absurd (no_truth (sym (first.before k less) ∙ listed));
}

abbrev pub place_at : List Entry → ℕ → ℕ
place_at es j = (get_or es j nothing).place

module _ {X : Type 0} (P : X → Type 0) (xs : List X) (es : List Entry) (key : Entry) where
  -- P holds of no element that an entry before p leads to, but for entries before those under the key
  abbrev pub Passed : ℕ → Type 0
  Passed p = (j : ℕ) → j < p → IfSome (slice_get xs (place_at es j)) (λ x. P x → rank_at es j < rank key)

  pub begins : (p : ℕ) → Splits es (rank key) p → Passed p
  begins p s j below = always (λ x. P x → rank_at es j < rank key) (slice_get xs (place_at es j)) (λ x h. s.below j below)

  pub passes : (p : ℕ) (e : Entry) → Passed p → e ≡ get_or es p nothing → IfSome (slice_get xs e.place) (λ x. P x → ⊥) → Passed (p + 1)
  passes p e before is not j below = go (nat_lt j p) refl
    where
      go : (b : Bool) → nat_lt j p ≡ b → IfSome (slice_get xs (place_at es j)) (λ x. P x → rank_at es j < rank key)
      go true q = before j (grind (arith, q))
      go false q =
          let least : p ≤ j = grind (arith, q) in
          let same : p ≡ j = omega (arith, below, least) in
          subst (λ i. IfSome (slice_get xs (place_at es i)) (λ x. P x → rank_at es i < rank key)) same
          (weaker (λ x. P x → ⊥) (λ x. P x → rank_at es p < rank key) (slice_get xs (place_at es p)) (λ x no h. absurd (no h)) (subst (λ (d : Entry). IfSome (slice_get xs d.place) (λ x. P x → ⊥)) is not))

  pub before_key : (p : ℕ) (e : Entry) → Passed p → e ≡ get_or es p nothing → rank e < rank key → Passed (p + 1)
  before_key p e before is less j below = go (nat_lt j p) refl
    where
      go : (b : Bool) → nat_lt j p ≡ b → IfSome (slice_get xs (place_at es j)) (λ x. P x → rank_at es j < rank key)
      go true q = before j (grind (arith, q))
      go false q =
          let least : p ≤ j = grind (arith, q) in
          let same : p ≡ j = omega (arith, below, least) in
          subst (λ i. IfSome (slice_get xs (place_at es i)) (λ x. P x → rank_at es i < rank key)) same
          (always (λ x. P x → rank_at es p < rank key) (slice_get xs (place_at es p)) (λ x h. subst (λ (d : Entry). rank d < rank key) is less))

  -- an entry under the key that stands before p leads to no element that P holds of
  none_before : (p k : ℕ) → key.place ≡ 0 → Passed p → (i : IsIn es (entry_at key k)) → i.place < p → IfSome (slice_get xs k) (λ x. P x → ⊥)
  none_before p k zero before i below =
      let is : place_at es i.place ≡ k = ap (λ (d : Entry). d.place) i.is in
      let r : rank_at es i.place ≡ rank (entry_at key k) = ap rank i.is in
      subst (λ j. IfSome (slice_get xs j) (λ x. P x → ⊥)) is
      (weaker (λ x. P x → rank_at es i.place < rank key) (λ x. P x → ⊥) (slice_get xs (place_at es i.place)) (λ x less h. let l : rank_at es i.place < rank key = less h in omega (arith, r, l, zero)) (before i.place below))

  none_if : (p k : ℕ) → key.place ≡ 0 → Passed p → ((j : ℕ) → p ≤ j → j < length es → get_or es j nothing ≡ entry_at key k → ⊥) → has es (entry_at key k) ≡ true → IfSome (slice_get xs k) (λ x. P x → ⊥)
  none_if p k zero before behind h = go (find_in es (entry_at key k) h)
    where
      go : IsIn es (entry_at key k) → IfSome (slice_get xs k) (λ x. P x → ⊥)
      go i = by (nat_lt i.place p) refl
        where
          by : (b : Bool) → nat_lt i.place p ≡ b → IfSome (slice_get xs k) (λ x. P x → ⊥)
          by true q = none_before p k zero before i (grind (arith, q))
          by false q = absurd (behind i.place (grind (arith, q)) i.within i.is)

  pub at_end : (p : ℕ) → key.place ≡ 0 → Passed p → length es ≤ p → FindsListed P xs es key None
  at_end p zero before past = λ k h. none_if p k zero before (λ j from within is. omega (arith, past, from, within)) h

  -- the entry at p is behind those under the key
  pub behind_key : (p : ℕ) (e : Entry) → key.place ≡ 0 → IsSortedByRank es → Passed p → p < length es → e ≡ get_or es p nothing → length xs ≤ 2 ^ 64 → rank key + 2 ^ 64 ≤ rank e → FindsListed P xs es key None
  behind_key p e zero sorted before within is small far = λ k h. go k h (nat_lt k (length xs)) refl
    where
      at : rank_at es p ≡ rank e
      at = sym (ap rank is)

      go : (k : ℕ) → has es (entry_at key k) ≡ true → (b : Bool) → nat_lt k (length xs) ≡ b → IfSome (slice_get xs k) (λ x. P x → ⊥)
      go k h false q = subst (λ o. IfSome o (λ x. P x → ⊥)) (sym (slice_get_past xs k (grind (arith, q)))) tt
      go k h true q = none_if p k zero before (λ j from inside same. by j from inside (ap rank same) (nat_eq p j) refl) h
        where
          less : k < 2 ^ 64
          less = let l : k < length xs = grind (arith, q) in omega (arith, l, small)

          by : (j : ℕ) → p ≤ j → j < length es → rank_at es j ≡ rank (entry_at key k) → (b : Bool) → nat_eq p j ≡ b → ⊥
          by j from inside r true w =
              let s : p ≡ j = grind (arith, w) in
              let t : rank_at es p ≡ rank_at es j = ap (rank_at es) s in
              omega (arith, r, t, at, far, less, zero)
          by j from inside r false w =
              let n : p < j = grind (arith, from, w) in
              let t : rank_at es p ≤ rank_at es j = sorted p j n inside in
              omega (arith, r, t, at, far, less, zero)

  -- the entry at p is under the key, and leads to an element that P holds of
  pub here_first : (p : ℕ) (e : Entry) → key.place ≡ 0 → IsSortedByRank es → Passed p → p < length es → e ≡ get_or es p nothing → e.major ≡ key.major → e.minor ≡ key.minor → e.place < length xs → IfSome (slice_get xs e.place) P → IsFirstListed P xs es key e.place
  here_first p e zero sorted before within is major minor inside h = record {
    holds = h;
    within = inside;
    before = λ k less has_it. none_if p k zero before (λ j from in_list same. by k less j from in_list (ap rank same) (nat_eq p j) refl) has_it;
  }
    where
      at : rank_at es p ≡ rank e
      at = sym (ap rank is)

      under : rank e ≡ rank (entry_at key e.place)
      under = ap (λ a. rank (record { major = a; minor = e.minor; place = e.place })) major ∙ ap (λ b. rank (record { major = key.major; minor = b; place = e.place })) minor

      by : (k : ℕ) → k < e.place → (j : ℕ) → p ≤ j → j < length es → rank_at es j ≡ rank (entry_at key k) → (b : Bool) → nat_eq p j ≡ b → ⊥
      by k less j from in_list r true w =
          let s : p ≡ j = grind (arith, w) in
          let t : rank_at es p ≡ rank_at es j = ap (rank_at es) s in
          omega (arith, r, t, at, under, less)
      by k less j from in_list r false w =
          let n : p < j = grind (arith, from, w) in
          let t : rank_at es p ≤ rank_at es j = sorted p j n in_list in
          omega (arith, r, t, at, under, less)

-- P does not hold there
pub not_there : {X : Type 0} (P : X → Type 0) (xs : List X) (i : ℕ) → (IsAt P xs i → ⊥) → IfSome (slice_get xs i) (λ x. P x → ⊥)
not_there {X = X} P xs i nay = go (slice_get xs i) refl
  where
    go : (o : Option X) → slice_get xs i ≡ o → IfSome o (λ x. P x → ⊥)
    go None e = tt
    go (Some x) e = λ h. nay (record { within = slice_get_within xs i x e; holds = subst (λ o. IfSome o P) (sym e) h })

-- no place has the key
pub none_listed : {X : Type 0} (P : X → Type 0) (xs : List X) (es : List Entry) (key : Entry) → length xs ≤ 2 ^ 64 → ((k : ℕ) → k < 2 ^ 64 → has es (entry_at key k) ≡ false) → FindsListed P xs es key None
none_listed P xs es key small none = λ k listed. go k listed (nat_lt k (length xs)) refl
  where
    go : (k : ℕ) → has es (entry_at key k) ≡ true → (b : Bool) → nat_lt k (length xs) ≡ b → IfSome (slice_get xs k) (λ x. P x → ⊥)
    go k listed false q = subst (λ o. IfSome o (λ x. P x → ⊥)) (sym (slice_get_past xs k (grind (arith, q)))) tt
    go k listed true q = absurd (no_truth (sym (none k (let l : k < length xs = grind (arith, q) in omega (arith, l, small))) ∙ listed))
