-- Entries in order, with one more or one fewer.
use Rattle.std.proofs.Common.{◌≡◌, ◌∙◌, ℕ, ◌+◌, ◌-◌, ◌<◌, ◌≤◌, List, [], ◌∷◌, length, get_or, Bool, true, false, nat_lt, nat_eq, suc, zero, refl, sym, subst, ap, arith}
use Rattle.std.specs.Prelude.{◌&&◌, ◌||◌}
use Rattle.std.specs.List.{insert, remove}
use Rattle.std.proofs.lemmas.List.{get_or_default}
use Rattle.std.proofs.lemmas.List.Edits.{get_or-insert_above, get_or-insert_at, get_or-insert_below, get_or-remove_above, get_or-remove_below, length-insert, length-remove}
use Rattle.host_index.specs.declared.entry.Entry.{Entry}
use Rattle.host_index.specs.Entries.{IsSortedByRank, Keeps, KeepsBut, Splits, entry_at, has, is_entry, nothing, rank, rank_at}

pub same_entry : (a b : Entry) → is_entry a b ≡ true → a ≡ b
same_entry a b h = grind (arith, h)

pub entry_itself : (a : Entry) → is_entry a a ≡ true
entry_itself a = grind arith

-- a place with an entry
pub record IsIn (es : List Entry) (x : Entry) : Type 0 where
  pub place : ℕ
  pub within : place < length es
  pub is : get_or es place nothing ≡ x

onward : (e : Entry) (es : List Entry) (x : Entry) → IsIn es x → IsIn (e ∷ es) x
onward e es x h = record { place = suc h.place; within = omega (arith, h.within); is = h.is }

false_not_true : false ≡ true → ⊥
false_not_true h = cc

pub find_in : (es : List Entry) (x : Entry) → has es x ≡ true → IsIn es x
unfolding has
find_in [] x h = absurd (false_not_true h)
find_in (e ∷ es) x h = go (is_entry e x) refl h (find_in es x)
  where
    go : (b : Bool) → is_entry e x ≡ b → (b || has es x) ≡ true → (has es x ≡ true → IsIn es x) → IsIn (e ∷ es) x
    go true is h rest = record { place = 0; within = omega arith; is = same_entry e x is }
    go false is h rest = onward e es x (rest h)

pub has_in : (es : List Entry) (x : Entry) (k : ℕ) → k < length es → get_or es k nothing ≡ x → has es x ≡ true
unfolding has
has_in [] x k within is = absurd (omega (arith, within))
has_in (e ∷ es) x zero within is = ap (λ b. b || has es x) (subst (λ y. is_entry e y ≡ true) is (entry_itself e))
has_in (e ∷ es) x (suc k) within is = go (is_entry e x) (has_in es x k (omega (arith, within)) is)
  where
    go : (b : Bool) → has es x ≡ true → (b || has es x) ≡ true
    go true h = refl
    go false h = h

-- ---- one more

module _ (es : List Entry) (e : Entry) (p : ℕ) (s : Splits es (rank e) p) where
  pub inserted : has (insert es p e) e ≡ true
  inserted = has_in (insert es p e) e p (let q = length-insert es p e s.within in omega (arith, q, s.within)) (get_or-insert_at es p e nothing s.within)

  pub insert_keeps : Keeps es (insert es p e)
  insert_keeps x h = go (find_in es x h)
    where
      go : IsIn es x → has (insert es p e) x ≡ true
      go i = by (nat_lt i.place p) refl
        where
          len : length (insert es p e) ≡ length es + 1
          len = length-insert es p e s.within

          by : (b : Bool) → nat_lt i.place p ≡ b → has (insert es p e) x ≡ true
          by true q = has_in (insert es p e) x i.place (let w = i.within in omega (arith, len, w)) (get_or-insert_below es p e nothing i.place (grind (arith, q)) s.within ∙ i.is)
          by false q = has_in (insert es p e) x (i.place + 1) (let w = i.within in omega (arith, len, w)) (get_or-insert_above es p e nothing i.place (grind (arith, q)) s.within ∙ i.is)

-- ---- one fewer

module _ (es : List Entry) (e x : Entry) (p : ℕ) (within : p < length es) (is : x ≡ get_or es p x) (same : is_entry x e ≡ true) where
  here_is : get_or es p nothing ≡ e
  here_is = get_or_default es p nothing x within ∙ sym is ∙ same_entry x e same

  len_fewer : length (remove es p) + 1 ≡ length es
  len_fewer = length-remove es p within

  pub remove_keeps : KeepsBut e es (remove es p)
  remove_keeps y other h = go (find_in es y h)
    where
      go : IsIn es y → has (remove es p) y ≡ true
      go i = by (nat_lt i.place p) refl (nat_eq i.place p) refl
        where
          by : (b : Bool) → nat_lt i.place p ≡ b → (c : Bool) → nat_eq i.place p ≡ c → has (remove es p) y ≡ true
          by true q c r = has_in (remove es p) y i.place (let f : i.place < p = grind (arith, q) in omega (arith, len_fewer, within, f)) (get_or-remove_below es p nothing i.place (grind (arith, q)) within ∙ i.is)
          by false q true r =
              let k : i.place ≡ p = grind (arith, r) in
              let z : e ≡ y = sym here_is ∙ sym (ap (λ j. get_or es j nothing) k) ∙ i.is in
              let no : true ≡ false = sym (subst (λ w. is_entry e w ≡ true) z (entry_itself e)) ∙ other in cc
          by false q false r =
              let f : p < i.place = grind (arith, q, r) in
              let w = i.within in
              let k : (i.place - 1) + 1 ≡ i.place = omega (arith, f) in
              has_in (remove es p) y (i.place - 1) (omega (arith, len_fewer, w, f)) (get_or-remove_above es p nothing (i.place - 1) (omega (arith, f)) within ∙ ap (λ j. get_or es j nothing) k ∙ i.is)

-- ---- nothing else is there

pub inserted_back : (es : List Entry) (e x : Entry) (p : ℕ) → p ≤ length es → is_entry e x ≡ false → has es x ≡ false → has (insert es p e) x ≡ false
inserted_back es e x p inside other nay = go (has (insert es p e) x) refl
  where
    len : length (insert es p e) ≡ length es + 1
    len = length-insert es p e inside

    no_truth : has es x ≡ true → ⊥
    no_truth h = false_not_true (sym nay ∙ h)

    at : (i : IsIn (insert es p e) x) → (b : Bool) → nat_lt i.place p ≡ b → (c : Bool) → nat_eq i.place p ≡ c → ⊥
    at i true q c r = let f : i.place < p = grind (arith, q) in no_truth (has_in es x i.place (omega (arith, f, inside)) (sym (get_or-insert_below es p e nothing i.place f inside) ∙ i.is))
    at i false q true r =
        let k : i.place ≡ p = grind (arith, r) in
        let z : e ≡ x = sym (get_or-insert_at es p e nothing inside) ∙ sym (ap (λ j. get_or (insert es p e) j nothing) k) ∙ i.is in
        false_not_true (sym other ∙ subst (λ w. is_entry e w ≡ true) z (entry_itself e))
    at i false q false r =
        let f : p < i.place = grind (arith, q, r) in
        let w = i.within in
        let k : (i.place - 1) + 1 ≡ i.place = omega (arith, f) in
        no_truth (has_in es x (i.place - 1) (omega (arith, len, w, f)) (sym (get_or-insert_above es p e nothing (i.place - 1) (omega (arith, f)) inside) ∙ ap (λ j. get_or (insert es p e) j nothing) k ∙ i.is))

    go : (b : Bool) → has (insert es p e) x ≡ b → b ≡ false
    go false h = refl
    go true h = let i = find_in (insert es p e) x h in absurd (at i (nat_lt i.place p) refl (nat_eq i.place p) refl)

pub removed_back : (es : List Entry) (x : Entry) (p : ℕ) → p < length es → has es x ≡ false → has (remove es p) x ≡ false
removed_back es x p within nay = go (has (remove es p) x) refl
  where
    len : length (remove es p) + 1 ≡ length es
    len = length-remove es p within

    no_truth : has es x ≡ true → ⊥
    no_truth h = false_not_true (sym nay ∙ h)

    at : (i : IsIn (remove es p) x) → (b : Bool) → nat_lt i.place p ≡ b → ⊥
    at i true q = let f : i.place < p = grind (arith, q) in no_truth (has_in es x i.place (omega (arith, f, within)) (sym (get_or-remove_below es p nothing i.place f within) ∙ i.is))
    at i false q =
        let f : p ≤ i.place = grind (arith, q) in
        let w = i.within in
        no_truth (has_in es x (i.place + 1) (omega (arith, len, w)) (sym (get_or-remove_above es p nothing i.place f within) ∙ i.is))

    go : (b : Bool) → has (remove es p) x ≡ b → b ≡ false
    go false h = refl
    go true h = let i = find_in (remove es p) x h in absurd (at i (nat_lt i.place p) refl)

-- where the entries of a key begin, the first is the one of the least place
pub none_before : (es : List Entry) (key : Entry) (p m : ℕ) → IsSortedByRank es → Splits es (rank key) p → key.place ≡ 0 → p < length es → get_or es p nothing ≡ entry_at key m → (k : ℕ) → k < m → has es (entry_at key k) ≡ false
none_before es key p m sorted s least inside is k less = go (has es (entry_at key k)) refl
  where
    here : rank_at es p ≡ rank (entry_at key m)
    here = ap rank is

    at : (i : IsIn es (entry_at key k)) → (b : Bool) → nat_lt i.place p ≡ b → (c : Bool) → nat_eq i.place p ≡ c → ⊥
    at i true q c r =
        let below : rank_at es i.place < rank key = s.below i.place (grind (arith, q)) in
        let there : rank_at es i.place ≡ rank (entry_at key k) = ap rank i.is in
        absurd (omega (arith, below, there, least))
    at i false q true r =
        let same : i.place ≡ p = grind (arith, r) in
        let there : rank_at es p ≡ rank (entry_at key k) = ap (rank_at es) (sym same) ∙ ap rank i.is in
        absurd (omega (arith, here, there, less))
    at i false q false r =
        let behind : rank_at es p ≤ rank_at es i.place = sorted p i.place (grind (arith, q, r)) i.within in
        let there : rank_at es i.place ≡ rank (entry_at key k) = ap rank i.is in
        absurd (omega (arith, behind, here, there, less))

    go : (b : Bool) → has es (entry_at key k) ≡ b → b ≡ false
    go false h = refl
    go true h = let i = find_in es (entry_at key k) h in absurd (at i (nat_lt i.place p) refl (nat_eq i.place p) refl)

-- ---- a key in front of all

-- the first is less than none, and so none has a key in front of it
pub none_under : (es : List Entry) (key first : Entry) → IsSortedByRank es → (0 < length es → get_or es 0 nothing ≡ first) → (nat_lt key.major first.major || (nat_eq key.major first.major && nat_lt key.minor first.minor)) ≡ true → key.minor < 18446744073709551616 → (k : ℕ) → k < 18446744073709551616 → has es (entry_at key k) ≡ false
none_under es key first sorted is less small k few = go (has es (entry_at key k)) refl
  where
    in_front : rank (entry_at key k) < rank first
    in_front = grind (arith, less, small, few)

    never : IsIn es (entry_at key k) → ⊥
    never i = at i.place i.within i.is
      where
        at : (j : ℕ) → j < length es → get_or es j nothing ≡ entry_at key k → ⊥
        at zero within here =
            let same : first ≡ entry_at key k = sym (is within) ∙ here in
            let rest : rank first ≡ rank (entry_at key k) = ap rank same in
            absurd (omega (arith, in_front, rest))
        at (suc j) within here =
            let order : rank (get_or es 0 nothing) ≤ rank (get_or es (suc j) nothing) = sorted 0 (suc j) (omega arith) within in
            let rest : rank (get_or es (suc j) nothing) ≡ rank (entry_at key k) = ap rank here in
            let from : rank (get_or es 0 nothing) ≡ rank first = ap rank (is (omega (arith, within))) in
            absurd (omega (arith, in_front, order, rest, from))

    go : (b : Bool) → has es (entry_at key k) ≡ b → b ≡ false
    go false e = refl
    go true e = absurd (never (find_in es (entry_at key k) e))
