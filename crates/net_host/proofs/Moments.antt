-- A walk through the entries of one major, by moments.
use Rattle.std.proofs.Common.{◌≡◌, ◌∙◌, ℕ, ◌+◌, ◌*◌, ◌^◌, ◌<◌, ◌≤◌, List, length, get_or, Bool, true, false, nat_lt, nat_eq, Option, Some, None, refl, sym, subst, ap, arith}
use Rattle.std.specs.Prelude.{IfSome, slice_get, ◌≤ℤ◌, ◌<ℤ◌}
use Rattle.std.proofs.lemmas.Int.{ints}
use Rattle.std.proofs.lemmas.Option.{slice_get_past}
use Rattle.host_index.specs.declared.entry.Entry.{Entry}
use Rattle.net_base.specs.declared.time.Instant.{Instant}
use Rattle.host_index.specs.Entries.{IsSortedByRank, Splits, nothing, rank, rank_at}
use Rattle.net_host.specs.Entries.{FindsEarliestListed, IsEarliestListed, IsListedOf, entry_of, is_ordered, order_of}
use Rattle.host_index.proofs.Entered.{IsIn, find_in}
use Rattle.net_host.proofs.Runs.{always, place_at, weaker}

not_later : (t u : Instant) → is_ordered t ≡ true → is_ordered u ≡ true → order_of t ≤ order_of u → t.micros ≤ℤ u.micros
not_later t u a b h = grind (arith, ints, a, b, h)

earlier : (t u : Instant) → is_ordered t ≡ true → is_ordered u ≡ true → order_of t < order_of u → t.micros <ℤ u.micros
earlier t u a b h = grind (arith, ints, a, b, h)

small_order : (u : Instant) → is_ordered u ≡ true → order_of u < 2 ^ 64
small_order u a = grind (arith, ints, a)

module _ {X : Type 0} (R : Instant → X → Type 0) (xs : List X) (es : List Entry) (major : ℕ) where
  abbrev pub Left : ℕ → Instant → X → Type 0
  Left j u x = R u x → is_ordered u ≡ true → (get_or es j nothing).minor ≡ order_of u → rank_at es j < (major * 2 ^ 64) * 2 ^ 64

  -- no element that an entry before p leads to rests until the moment of the entry, but for entries before those
  abbrev pub PassedAll : ℕ → Type 0
  PassedAll p = (j : ℕ) (u : Instant) → j < p → IfSome (slice_get xs (place_at es j)) (Left j u)

  pub starts : (p n : ℕ) → n ≡ (major * 2 ^ 64) * 2 ^ 64 → Splits es n p → PassedAll p
  starts p n is s j u below = always (Left j u) (slice_get xs (place_at es j)) (λ x h o e. let q : rank_at es j < n = s.below j below in omega (arith, q, is))

  pub steps : (p : ℕ) (e : Entry) → PassedAll p → e ≡ get_or es p nothing → ((u : Instant) → is_ordered u ≡ true → e.minor ≡ order_of u → IfSome (slice_get xs e.place) (λ x. R u x → ⊥)) → PassedAll (p + 1)
  steps p e before is not j u below = go (nat_lt j p) refl
    where
      go : (b : Bool) → nat_lt j p ≡ b → IfSome (slice_get xs (place_at es j)) (Left j u)
      go true q = before j u (grind (arith, q))
      go false q =
          let least : p ≤ j = grind (arith, q) in
          let same : p ≡ j = omega (arith, below, least) in
          subst (λ i. IfSome (slice_get xs (place_at es i)) (Left i u)) same (by (slice_get xs (place_at es p)) refl)
        where
          by : (o : Option X) → slice_get xs (place_at es p) ≡ o → IfSome o (Left p u)
          by None w = tt
          by (Some x) w = λ h o m. absurd (subst (λ a. IfSome a (λ y. R u y → ⊥)) w (subst (λ (d : Entry). IfSome (slice_get xs d.place) (λ y. R u y → ⊥)) is (not u o (ap (λ (d : Entry). d.minor) is ∙ m))) h)

  pub before_all : (p : ℕ) (e : Entry) → PassedAll p → e ≡ get_or es p nothing → rank e < (major * 2 ^ 64) * 2 ^ 64 → PassedAll (p + 1)
  before_all p e before is less j u below = go (nat_lt j p) refl
    where
      go : (b : Bool) → nat_lt j p ≡ b → IfSome (slice_get xs (place_at es j)) (Left j u)
      go true q = before j u (grind (arith, q))
      go false q =
          let least : p ≤ j = grind (arith, q) in
          let same : p ≡ j = omega (arith, below, least) in
          subst (λ i. IfSome (slice_get xs (place_at es i)) (Left i u)) same (always (Left p u) (slice_get xs (place_at es p)) (λ x h o m. subst (λ (d : Entry). rank d < (major * 2 ^ 64) * 2 ^ 64) is less))

  gone : (p k : ℕ) (u : Instant) → is_ordered u ≡ true → PassedAll p → (i : IsIn es (entry_of major u k)) → i.place < p → IfSome (slice_get xs k) (λ x. R u x → ⊥)
  gone p k u o before i below =
      let is : place_at es i.place ≡ k = ap (λ (d : Entry). d.place) i.is in
      let m : (get_or es i.place nothing).minor ≡ order_of u = ap (λ (d : Entry). d.minor) i.is in
      let r : rank_at es i.place ≡ rank (entry_of major u k) = ap rank i.is in
      subst (λ j. IfSome (slice_get xs j) (λ x. R u x → ⊥)) is
      (weaker (Left i.place u) (λ x. R u x → ⊥) (slice_get xs (place_at es i.place)) (λ x left h. let l : rank_at es i.place < (major * 2 ^ 64) * 2 ^ 64 = left h o m in omega (arith, r, l)) (before i.place u below))

  -- each that is listed is gone, or stands at p or behind
  cases : (Q : X → Type 0) (p k : ℕ) (u : Instant) → PassedAll p → ((x : X) → (R u x → ⊥) → Q x) → ((j : ℕ) → p ≤ j → j < length es → rank_at es j ≡ rank (entry_of major u k) → IfSome (slice_get xs k) Q) → IsListedOf es major u k → IfSome (slice_get xs k) Q
  cases Q p k u before weak behind l = go (find_in es (entry_of major u k) l.1)
    where
      go : IsIn es (entry_of major u k) → IfSome (slice_get xs k) Q
      go i = by (nat_lt i.place p) refl
        where
          by : (b : Bool) → nat_lt i.place p ≡ b → IfSome (slice_get xs k) Q
          by true q = weaker (λ x. R u x → ⊥) Q (slice_get xs k) weak (gone p k u l.0 before i (grind (arith, q)))
          by false q = behind i.place (grind (arith, q)) i.within (ap rank i.is)

  pub none_left : (p : ℕ) → PassedAll p → length es ≤ p → FindsEarliestListed R xs es major None
  none_left p before past = λ k u l. cases (λ x. R u x → ⊥) p k u before (λ x no. no) (λ j from within r. absurd (omega (arith, past, from, within))) l

  module _ (p : ℕ) (e : Entry) (sorted : IsSortedByRank es) (before : PassedAll p) (within : p < length es) (is : e ≡ get_or es p nothing) (small : length xs ≤ 2 ^ 64) where
    at : rank_at es p ≡ rank e
    at = sym (ap rank is)

    least : (j : ℕ) → p ≤ j → j < length es → rank e ≤ rank_at es j
    least j from inside = by (nat_eq p j) refl
      where
        by : (b : Bool) → nat_eq p j ≡ b → rank e ≤ rank_at es j
        by true w = let s : rank_at es p ≡ rank_at es j = ap (rank_at es) (grind (arith, w)) in omega (arith, s, at)
        by false w = let t : rank_at es p ≤ rank_at es j = sorted p j (grind (arith, from, w)) inside in omega (arith, t, at)

    inside : (Q : X → Type 0) (k : ℕ) → (k < 2 ^ 64 → IfSome (slice_get xs k) Q) → IfSome (slice_get xs k) Q
    inside Q k f = by (nat_lt k (length xs)) refl
      where
        by : (b : Bool) → nat_lt k (length xs) ≡ b → IfSome (slice_get xs k) Q
        by true q = f (let l : k < length xs = grind (arith, q) in omega (arith, l, small))
        by false q = subst (λ o. IfSome o Q) (sym (slice_get_past xs k (grind (arith, q)))) tt

    pub behind_major : (major + 1) * 2 ^ 64 * 2 ^ 64 ≤ rank e → FindsEarliestListed R xs es major None
    behind_major far = λ k u l. inside (λ x. R u x → ⊥) k (λ less. cases (λ x. R u x → ⊥) p k u before (λ x no. no) (λ j from in_list r. let q = least j from in_list in let o = small_order u l.0 in absurd (omega (arith, q, r, far, less, o))) l)

    pub here_earliest : (t : Instant) → is_ordered t ≡ true → e.major ≡ major → e.minor ≡ order_of t → e.place < length xs → IfSome (slice_get xs e.place) (R t) → IsEarliestListed R xs es major e.place t
    here_earliest t ordered same_major same_minor in_list h = record {
      within = in_list;
      holds = h;
      others = λ k u l. inside (λ x. R u x → t.micros ≤ℤ u.micros) k (λ less. cases (λ x. R u x → t.micros ≤ℤ u.micros) p k u before (λ x no r. absurd (no r)) (λ j from in_es r. always (λ x. R u x → t.micros ≤ℤ u.micros) (slice_get xs k) (λ x hold. let q = least j from in_es in not_later t u ordered l.0 (omega (arith, q, r, under, less)))) l);
      before = λ k u first l. inside (λ x. R u x → t.micros <ℤ u.micros) k (λ less. cases (λ x. R u x → t.micros <ℤ u.micros) p k u before (λ x no r. absurd (no r)) (λ j from in_es r. always (λ x. R u x → t.micros <ℤ u.micros) (slice_get xs k) (λ x hold. let q = least j from in_es in earlier t u ordered l.0 (omega (arith, q, r, under, less, first)))) l);
    }
      where
        under : rank e ≡ (major * 2 ^ 64 + order_of t) * 2 ^ 64 + e.place
        under = ap (λ a. rank (record { major = a; minor = e.minor; place = e.place })) same_major ∙ ap (λ b. rank (record { major = major; minor = b; place = e.place })) same_minor
