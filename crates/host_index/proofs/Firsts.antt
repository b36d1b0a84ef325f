-- First places that are known stay first.
use Rattle.std.proofs.Common.{◌≡◌, ◌∙◌, ℕ, ◌*◌, ◌/◌, ◌<◌, ◌≤◌, List, [], ◌∷◌, suc, zero, Bool, true, false, length, get_or, nat_eq, nat_lt, refl, sym, subst, ap, arith}
use Rattle.std.specs.Prelude.{IfSome, Option, Some, None, slice_set}
use Rattle.std.specs.List.{insert, remove}
use Rattle.std.proofs.lemmas.List.{get_or-set_other}
use Rattle.host_index.specs.declared.columns.Columns.{Columns}
use Rattle.host_index.specs.declared.entry.Entry.{Entry}
use Rattle.host_index.specs.Columns.{Frees, IsPut, Puts, entry_in, is_free}
use Rattle.host_index.specs.Entries.{IsFirst, Splits, entry_at, has, is_entry, rank}
use Rattle.host_index.specs.Indexing.{AreBefore, IsAmong, IsIndex, IsOrdered, entries_in, number_at}
use Rattle.host_index.specs.Known.{AreFirst, IsFirstIf, IsFirstIn, known_at, learned, slot_of}
use Rattle.host_index.proofs.Entered.{has_in, inserted_back, none_before, removed_back, same_entry}
use Rattle.host_index.proofs.Numbers.{as_many, entry_of, equal, not_free, sorted, splits_here}

-- what is among the numbers is among the entries
pub among_entries : (c : Columns) (os : List ℕ) (n : ℕ) (e : Entry) → IsAmong os n → entry_in c n ≡ e → has (entries_in c os) e ≡ true
among_entries c os n e i is =
    has_in (entries_in c os) e i.place (subst (λ m. i.place < m) (sym (as_many c os)) i.within) (entry_of c os i.place i.within ∙ ap (entry_in c) i.is ∙ is)

-- a key that is put is one of the entries
pub put_is_there : (c : Columns) (os : List ℕ) (n : ℕ) (e : Entry) → IsIndex c os → IsPut n e c → has (entries_in c os) e ≡ true
put_is_there c os n e index put = among_entries c os n e (index.listed n put.within put.taken) put.here

-- a place that is known and has the key is the first under it
pub known_is_first : (c : Columns) (os ks : List ℕ) (key : Entry) → IsIndex c os → AreFirst c os ks → IsPut (2 * known_at ks key) (entry_at key (known_at ks key)) c → IsFirst (entries_in c os) key (known_at ks key)
known_is_first c os ks key index firsts put = record {
  here = put_is_there c os (2 * known_at ks key) (entry_at key (known_at ks key)) index put;
  before = firsts key put;
}

-- ---- the room of a key

-- entries under one key have one room
same_slot : (a b : Entry) (k m : ℕ) → entry_at a k ≡ entry_at b m → slot_of a ≡ slot_of b
same_slot a b k m is = ap slot_of is

equal_slots : (m n : ℕ) → nat_eq n m ≡ true → m ≡ n
equal_slots m n h = grind (arith, h)

another : (a b : Entry) (k m : ℕ) → nat_eq (slot_of a) (slot_of b) ≡ false → entry_at a k ≡ entry_at b m → ⊥
another a b k m apart is = let same = same_slot a b k m is in absurd (grind (arith, apart, same))

known_elsewhere : (ks : List ℕ) (a b : Entry) (v : ℕ) → nat_eq (slot_of a) (slot_of b) ≡ false → known_at (slice_set ks (slot_of b) v) a ≡ known_at ks a
known_elsewhere ks a b v apart = get_or-set_other ks (slot_of b) (slot_of a) v 4294967295 (λ same. absurd (grind (arith, apart, same)))

set_default : (xs : List ℕ) (i d : ℕ) → get_or (slice_set xs i d) i d ≡ d
set_default [] i d = refl
set_default (x ∷ xs) zero d = refl
set_default (x ∷ xs) (suc i) d = set_default xs i d

set_or_default : (xs : List ℕ) (i v d : ℕ) → (P : ℕ → Type 0) → P v → P d → P (get_or (slice_set xs i v) i d)
set_or_default [] i v d P there none = none
set_or_default (x ∷ xs) zero v d P there none = there
set_or_default (x ∷ xs) (suc i) v d P there none = set_or_default xs i v d P there none

-- no place is so far on
none_there : (c : Columns) (os : List ℕ) (key : Entry) → length c.majors.items ≤ 1073741824 → IsFirstIf c os key 4294967295
none_there c os key few put = let w = put.within in absurd (omega (arith, few, w))

-- ---- one more, and one fewer

module _ (c d : Columns) (os ks : List ℕ) (firsts : AreFirst c os ks) where
  module _ (p n : ℕ) (e : Entry) (put : Puts n e c d) (inside : p ≤ length os) where
    apart_from : (key : Entry) (v : ℕ) → nat_eq (slot_of key) (slot_of e) ≡ false → entry_in d (2 * v) ≡ entry_at key v → nat_eq (2 * v) n ≡ false
    apart_from key v other is = go (nat_eq (2 * v) n) refl
      where
        go : (b : Bool) → nat_eq (2 * v) n ≡ b → b ≡ false
        go false q = refl
        go true q =
            let same : 2 * v ≡ n = grind (arith, q) in
            absurd (another key e v e.place other (sym is ∙ ap (entry_in d) same ∙ put.here))

    is_another : (key : Entry) (k : ℕ) → nat_eq (slot_of key) (slot_of e) ≡ false → is_entry e (entry_at key k) ≡ false
    is_another key k other = go (is_entry e (entry_at key k)) refl
      where
        go : (b : Bool) → is_entry e (entry_at key k) ≡ b → b ≡ false
        go false q = refl
        go true q = absurd (another key e k e.place other (sym (same_entry e (entry_at key k) q)))

    pub added_first : (qs : List ℕ) → entries_in d qs ≡ insert (entries_in c os) p e → AreFirst d qs (slice_set ks (slot_of e) 4294967295)
    added_first qs now key = by (nat_eq (slot_of key) (slot_of e)) refl
      where
        by : (b : Bool) → nat_eq (slot_of key) (slot_of e) ≡ b → IsFirstIf d qs key (known_at (slice_set ks (slot_of e) 4294967295) key)
        by true at = subst (λ i. IsFirstIf d qs key (get_or (slice_set ks (slot_of e) 4294967295) i 4294967295)) (equal_slots (slot_of e) (slot_of key) at) (subst (λ v. IsFirstIf d qs key v) (sym (set_default ks (slot_of e) 4294967295)) (none_there d qs key put.as_many.few))
        by false other = subst (λ v. IsFirstIf d qs key v) (sym (known_elsewhere ks key e 4294967295 other)) still
          where
            still : IsFirstIf d qs key (known_at ks key)
            still there k less =
                let m : nat_eq (2 * known_at ks key) n ≡ false = apart_from key (known_at ks key) other there.here in
                let before : has (entries_in c os) (entry_at key k) ≡ false = firsts key (record { within = subst (λ l. 2 * known_at ks key / 2 < l) put.len there.within; taken = sym (put.others_free (2 * known_at ks key) m) ∙ there.taken; here = sym (put.others (2 * known_at ks key) m) ∙ there.here }) k less in
                subst (λ es. has es (entry_at key k) ≡ false) (sym now) (inserted_back (entries_in c os) e (entry_at key k) p (subst (λ l. p ≤ l) (sym (as_many c os)) inside) (is_another key k other) before)

  module _ (p : ℕ) (within : p < length os) (frees : Frees (number_at os p) c d) where
    pub removed_first : (qs : List ℕ) → entries_in d qs ≡ remove (entries_in c os) p → AreFirst d qs ks
    removed_first qs now key there k less =
        let m : nat_eq (2 * known_at ks key) (number_at os p) ≡ false = not_freed (nat_eq (2 * known_at ks key) (number_at os p)) refl in
        let before : has (entries_in c os) (entry_at key k) ≡ false = firsts key (record { within = inside; taken = sym (frees.others_free (2 * known_at ks key) m) ∙ there.taken; here = sym (frees.others (2 * known_at ks key) m) ∙ there.here }) k less in
        subst (λ es. has es (entry_at key k) ≡ false) (sym now) (removed_back (entries_in c os) (entry_at key k) p (subst (λ l. p < l) (sym (as_many c os)) within) before)
      where
        inside : 2 * known_at ks key / 2 < length c.majors.items
        inside = subst (λ l. 2 * known_at ks key / 2 < l) frees.len there.within

        not_freed : (b : Bool) → nat_eq (2 * known_at ks key) (number_at os p) ≡ b → b ≡ false
        not_freed false q = refl
        not_freed true q =
            let same : 2 * known_at ks key ≡ number_at os p = equal (2 * known_at ks key) (number_at os p) q in
            absurd (not_free (sym (subst (λ n. is_free d n ≡ true) (sym same) (frees.freed (subst (λ n. n / 2 < length c.majors.items) same inside))) ∙ there.taken))

-- ---- one more that is known

pub known_more : (c : Columns) (os ks : List ℕ) (sought : Entry) (place : ℕ) → length c.majors.items ≤ 1073741824 → IsFirstIn c os sought place → AreFirst c os ks → AreFirst c os (slice_set ks (slot_of sought) place)
known_more c os ks sought place few first firsts key = by (nat_eq (slot_of key) (slot_of sought)) refl
  where
    here : IsFirstIf c os key place
    here put k less =
        let same : entry_at sought place ≡ entry_at key place = sym first.here ∙ put.here in
        subst (λ e. has (entries_in c os) (entry_at e k) ≡ false) same (first.before k less)

    by : (b : Bool) → nat_eq (slot_of key) (slot_of sought) ≡ b → IsFirstIf c os key (known_at (slice_set ks (slot_of sought) place) key)
    by true at = subst (λ i. IsFirstIf c os key (get_or (slice_set ks (slot_of sought) place) i 4294967295)) (equal_slots (slot_of sought) (slot_of key) at) (set_or_default ks (slot_of sought) place 4294967295 (λ v. IsFirstIf c os key v) here (none_there c os key few))
    by false other = subst (λ v. IsFirstIf c os key v) (sym (known_elsewhere ks key sought place other)) (firsts key)

pub learned_more : (c : Columns) (os ks : List ℕ) (sought : Entry) (place : Option ℕ) → length c.majors.items ≤ 1073741824 → IfSome place (λ p. IsFirstIn c os sought p) → AreFirst c os ks → AreFirst c os (learned ks sought place)
learned_more c os ks sought None few first firsts = firsts
learned_more c os ks sought (Some place) few first firsts = known_more c os ks sought place few first firsts

-- ---- the first under a key, where its entries begin

pub first_of : (c : Columns) (os : List ℕ) (key : Entry) (p n : ℕ) (place : Option ℕ) → IsOrdered c os → Splits (entries_in c os) (rank key) p → key.place ≡ 0 → p < length os → number_at os p ≡ n → IfSome place (λ m. (n ≡ 2 * m) × (entry_in c n ≡ entry_at key m)) → IfSome place (λ m. IsFirstIn c os key m)
first_of c os key p n None ordered s least within number h = tt
first_of c os key p n (Some m) ordered s least within number h = record {
  here = ap (entry_in c) (sym h.0) ∙ h.1;
  before = none_before (entries_in c os) key p m (sorted c os ordered) s least (subst (λ l. p < l) (sym (as_many c os)) within) (entry_of c os p within ∙ ap (entry_in c) number ∙ h.1);
}

-- a place that has a key is the first under it, where all before its entry stand before the key
pub first_here : (c : Columns) (os : List ℕ) (key : Entry) (p place : ℕ) → IsOrdered c os → key.place ≡ 0 → p < length os → number_at os p ≡ 2 * place → IsPut (2 * place) (entry_at key place) c → AreBefore c os (rank key) p → IsFirstIn c os key place
first_here c os key p place ordered least within number put before = record {
  here = put.here;
  before = none_before (entries_in c os) key p place (sorted c os ordered) (splits_here c os (rank key) p ordered within before not_less) least (subst (λ l. p < l) (sym (as_many c os)) within) (entry_of c os p within ∙ is);
}
  where
    is : entry_in c (number_at os p) ≡ entry_at key place
    is = ap (entry_in c) number ∙ put.here

    not_less : nat_lt (rank (entry_in c (number_at os p))) (rank key) ≡ false
    not_less = let same : rank (entry_in c (number_at os p)) ≡ rank (entry_at key place) = ap rank is in grind (arith, same, least)
