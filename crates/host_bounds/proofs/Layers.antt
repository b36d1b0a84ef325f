-- Bounds above bounds.
use Rattle.std.proofs.Common.{◌≡◌, ◌∙◌, ℕ, ℤ, ◌+◌, ◌*◌, ◌/◌, ◌<◌, ◌≤◌, Bool, true, false, List, length, nat_eq, nat_lt, refl, sym, ap, subst, pos, ◌+ℤ◌, arith}
use Rattle.std.specs.Prelude.{slice_set, ◌≤ℤ◌, ◌<ℤ◌, int_le, if◌then◌else◌}
use Rattle.std.specs.Int.{div_ceil}
use Rattle.std.specs.List.{All}
use Rattle.std.proofs.lemmas.Int.{ints}
use Rattle.std.proofs.lemmas.List.{length-set, get_or-set_other, get_or-set_same}
use Rattle.std.proofs.lemmas.List.Elements.{All-get_or}
use Rattle.host_bounds.specs.Bounding.{Covers, CoversBut, IsBelowIn, IsBelowInBut, IsGreatest, IsLayered, IsTopped, KeepsBut, Nears, NearsBut, Reaches, at_once, bound_at, first_top, latest}

other : (k i : ℕ) → nat_eq k i ≡ false → k ≡ i → ⊥
other k i h e = absurd (grind (arith, h, e))

-- one bound is set
pub set_elsewhere : (bs : List ℤ) (k i : ℕ) (m : ℤ) → nat_eq k i ≡ false → bound_at (slice_set bs i m) k ≡ bound_at bs k
set_elsewhere bs k i m h = get_or-set_other bs i k m at_once (other k i h)

pub sets : (bs : List ℤ) (i : ℕ) (m : ℤ) → KeepsBut i bs (slice_set bs i m)
sets bs i m = record { len = length-set bs i m; others = λ k h. set_elsewhere bs k i m h }

-- all bounds are what they were, where that of this place is
pub same_bounds : (bs cs : List ℤ) (i : ℕ) → KeepsBut i bs cs → bound_at cs i ≡ bound_at bs i → (k : ℕ) → bound_at cs k ≡ bound_at bs k
same_bounds bs cs i kept here k = go (nat_eq k i) refl
  where
    go : (b : Bool) → nat_eq k i ≡ b → bound_at cs k ≡ bound_at bs k
    go true e =
        let same : k ≡ i = grind (arith, e) in
        subst (λ j. bound_at cs j ≡ bound_at bs j) (sym same) here
    go false e = kept.others k e

pub reaches_still : (low low' high high' : List ℤ) (i j : ℕ) → KeepsBut i low low' → KeepsBut j high high' → Reaches low high → Reaches low' high'
reaches_still low low' high high' i j kept stays reaches k within = subst (λ n. k / 16 < n) (sym stays.len) (reaches k (subst (λ n. k < n) kept.len within))

pub layered : (places blocks groups places' blocks' groups' : List ℤ) (i j k : ℕ) → IsLayered places blocks groups → KeepsBut i places places' → KeepsBut j blocks blocks' → KeepsBut k groups groups' → Covers places' blocks' → Covers blocks' groups' → Nears places' blocks' → Nears blocks' groups' → IsLayered places' blocks' groups'
layered places blocks groups places' blocks' groups' i j k was a b c d e p q = record {
  blocks_reach = reaches_still places places' blocks blocks' i j a b was.blocks_reach;
  groups_reach = reaches_still blocks blocks' groups groups' j k b c was.groups_reach;
  blocks_cover = d;
  groups_cover = e;
  blocks_near = p;
  groups_near = q;
}

-- where no bound of a block is another, the groups stay
pub layered_still : (places blocks groups places' blocks' : List ℤ) (i j : ℕ) → IsLayered places blocks groups → KeepsBut i places places' → KeepsBut j blocks blocks' → Covers places' blocks' → Nears places' blocks' → ((k : ℕ) → bound_at blocks' k ≡ bound_at blocks k) → IsLayered places' blocks' groups
layered_still places blocks groups places' blocks' i j was a b d p same = layered places blocks groups places' blocks' groups i j 0 was a b (record { len = refl; others = λ k h. refl }) d
    (λ k h. subst (λ m. bound_at groups (k / 16) ≤ℤ m) (sym (same k)) (was.groups_cover k (subst (λ n. k < n) b.len h)))
    p
    (λ l there n most h. was.groups_near l there n most (λ k inside is. subst (λ m. n ≤ℤ m) (same k) (h k (subst (λ m. k < m) (sym b.len) inside) is)))

-- ---- none later is below all that a bound stands above

-- where one of them was changed, before the bound above it is mended
pub nears_but : (low low' high : List ℤ) (place : ℕ) → KeepsBut place low low' → Nears low high → NearsBut place (bound_at low place) low' high
nears_but low low' high place kept near j there n most h = near j there n most below
  where
    below : IsBelowIn n low j
    below k inside same = go (nat_eq k place) refl (h k (subst (λ i. k < i) (sym kept.len) inside) same)
      where
        go : (b : Bool) → nat_eq k place ≡ b → n ≤ℤ (if b then bound_at low place else bound_at low' k) → n ≤ℤ bound_at low k
        go true e p = let is : k ≡ place = grind (arith, e) in subst (λ i. n ≤ℤ bound_at low i) (sym is) p
        go false e p = subst (λ b. n ≤ℤ b) (kept.others k e) p

module _ (low high high' : List ℤ) (place : ℕ) (was : ℤ) (kept : KeepsBut (place / 16) high high') (near : NearsBut place was low high) where
  elsewhere : (j : ℕ) → nat_eq j (place / 16) ≡ false → j < length high' → (n : ℤ) → n ≤ℤ latest → IsBelowIn n low j → n ≤ℤ bound_at high' j
  elsewhere j e there n most h = subst (λ b. n ≤ℤ b) (sym (kept.others j e)) (near j (subst (λ m. j < m) kept.len there) n most but)
    where
      but : IsBelowInBut place was n low j
      but k inside same = go (nat_eq k place) refl
        where
          go : (b : Bool) → nat_eq k place ≡ b → n ≤ℤ (if b then was else bound_at low k)
          go true f =
              let is : k ≡ place = grind (arith, f) in
              absurd (other j (place / 16) e (sym same ∙ ap (λ i. i / 16) is))
          go false f = h k inside same

  -- the bound above the place is the greatest, too
  pub nears_by : ((n : ℤ) → n ≤ℤ latest → IsBelowIn n low (place / 16) → n ≤ℤ bound_at high' (place / 16)) → Nears low high'
  nears_by here j there n most h = go (nat_eq j (place / 16)) refl
    where
      go : (b : Bool) → nat_eq j (place / 16) ≡ b → n ≤ℤ bound_at high' j
      go true e =
          let same : j ≡ place / 16 = grind (arith, e) in
          subst (λ i. n ≤ℤ bound_at high' i) (sym same) (here n most (subst (λ i. IsBelowIn n low i) same h))
      go false e = elsewhere j e there n most h

-- the bound above another one stays, where that was higher and is not lower now
pub nears_still : (low high : List ℤ) (place : ℕ) (was : ℤ) → place / 16 < length high → bound_at high (place / 16) <ℤ was → bound_at high (place / 16) ≤ℤ bound_at low place → NearsBut place was low high → Nears low high
nears_still low high place was there higher lower near = nears_by low high high place was (record { len = refl; others = λ k e. refl }) near here
  where
    old : ℤ
    old = bound_at high (place / 16)

    here : (n : ℤ) → n ≤ℤ latest → IsBelowIn n low (place / 16) → n ≤ℤ old
    here n most h = go (int_le n old) refl
      where
        go : (b : Bool) → int_le n old ≡ b → n ≤ℤ old
        go true e = grind (arith, ints, e)
        go false e =
            let next : (old +ℤ pos 1) ≤ℤ n = grind (arith, ints, e) in
            let low_still : (old +ℤ pos 1) ≤ℤ latest = grind (arith, ints, next, most) in
            let no : (old +ℤ pos 1) ≤ℤ old = near (place / 16) there (old +ℤ pos 1) low_still but in
            absurd (grind (arith, ints, no))
          where
            but : IsBelowInBut place was (old +ℤ pos 1) low (place / 16)
            but k inside same = by (nat_eq k place)
              where
                by : (b : Bool) → (old +ℤ pos 1) ≤ℤ (if b then was else bound_at low k)
                by true = grind (arith, ints, higher)
                by false = let p : n ≤ℤ bound_at low k = h k inside same in let next : (old +ℤ pos 1) ≤ℤ n = grind (arith, ints, e) in grind (arith, ints, p, next)

-- through all levels
pub greatest_of_all : (places blocks groups : List ℤ) (m : ℤ) → IsLayered places blocks groups → IsGreatest m groups → IsGreatest m places
greatest_of_all places blocks groups m layers greatest n most below = greatest n most (λ i there. layers.groups_near i there n most (λ j inside same. layers.blocks_near j inside n most (λ k within under. below k within)))

-- the least of the groups is below all
pub below_all : (places blocks groups : List ℤ) (m : ℤ) → IsLayered places blocks groups → ((k : ℕ) → k < length groups → m ≤ℤ bound_at groups k) → (k : ℕ) → k < length places → m ≤ℤ bound_at places k
below_all places blocks groups m layers h k within =
    let p : bound_at blocks (k / 16) ≤ℤ bound_at places k = layers.blocks_cover k within in
    let q : bound_at groups (k / 16 / 16) ≤ℤ bound_at blocks (k / 16) = layers.groups_cover (k / 16) (layers.blocks_reach k within) in
    let r : m ≤ℤ bound_at groups (k / 16 / 16) = h (k / 16 / 16) (layers.groups_reach (k / 16) (layers.blocks_reach k within)) in
    grind (arith, ints, p, q, r)

-- no place of the blocks up to the next one is reached
pub none_between : (places blocks : List ℤ) (place next : ℕ) (now : ℤ) → Covers places blocks → now <ℤ bound_at blocks (place / 16) → ((j : ℕ) → place / 16 + 1 ≤ j → j < next → now <ℤ bound_at blocks j) → (k : ℕ) → place ≤ k → k < next * 16 → k < length places → now <ℤ bound_at places k
none_between places blocks place next now covers here others k from to within = go (nat_eq (k / 16) (place / 16)) refl
  where
    go : (b : Bool) → nat_eq (k / 16) (place / 16) ≡ b → now <ℤ bound_at places k
    go true e =
        let same : k / 16 ≡ place / 16 = grind (arith, e) in
        let p : bound_at blocks (k / 16) ≤ℤ bound_at places k = covers k within in
        let q : now <ℤ bound_at blocks (k / 16) = subst (λ n. now <ℤ bound_at blocks n) (sym same) here in
        grind (arith, ints, p, q)
    go false e =
        let differs : k / 16 ≡ place / 16 → ⊥ = λ f. other (k / 16) (place / 16) e f in
        let after : place / 16 + 1 ≤ k / 16 = omega (arith, from, differs) in
        let before : k / 16 < next = omega (arith, to) in
        let p : bound_at blocks (k / 16) ≤ℤ bound_at places k = covers k within in
        let q : now <ℤ bound_at blocks (k / 16) = others (k / 16) after before in
        grind (arith, ints, p, q)

-- the bound above a block is set
set_there : (high : List ℤ) (i : ℕ) (m : ℤ) → i < length high → bound_at (slice_set high i m) i ≡ m
set_there high i m h = get_or-set_same high i m at_once h

pub covers_by : (low high : List ℤ) (place : ℕ) (m : ℤ) → place / 16 < length high → CoversBut place low high → IsBelowIn m low (place / 16) → Covers low (slice_set high (place / 16) m)
covers_by low high place m there others below k inside = go (nat_eq (k / 16) (place / 16)) refl
  where
    go : (b : Bool) → nat_eq (k / 16) (place / 16) ≡ b → bound_at (slice_set high (place / 16) m) (k / 16) ≤ℤ bound_at low k
    go true e =
        let same : k / 16 ≡ place / 16 = grind (arith, e) in
        subst (λ b. b ≤ℤ bound_at low k) (sym (ap (λ i. bound_at (slice_set high (place / 16) m) i) same ∙ set_there high (place / 16) m there)) (below k inside same)
    go false e = subst (λ b. b ≤ℤ bound_at low k) (sym (set_elsewhere high (k / 16) (place / 16) m e)) (others k inside (by (nat_eq k place) refl))
      where
        by : (b : Bool) → nat_eq k place ≡ b → b ≡ false
        by false f = refl
        by true f = let is : k ≡ place = grind (arith, f) in absurd (other (k / 16) (place / 16) e (ap (λ i. i / 16) is))

pub nears_set : (low high : List ℤ) (place : ℕ) (was m : ℤ) → place / 16 < length high → NearsBut place was low high → ((n : ℤ) → n ≤ℤ latest → IsBelowIn n low (place / 16) → n ≤ℤ m) → Nears low (slice_set high (place / 16) m)
nears_set low high place was m there near greatest = nears_by low high (slice_set high (place / 16) m) place was (sets high (place / 16) m) near (λ n most h. subst (λ b. n ≤ℤ b) (sym (set_there high (place / 16) m there)) (greatest n most h))

-- ---- all at once

all_least : (bs : List ℤ) (k : ℕ) → All (λ b. b ≡ at_once) bs → k < length bs → bound_at bs k ≡ at_once
all_least bs k all h = All-get_or (λ b. b ≡ at_once) bs k at_once h all

module _ (low high : List ℤ) (low_least : All (λ b. b ≡ at_once) low) (high_least : All (λ b. b ≡ at_once) high) where
  fresh_covers : Reaches low high → Covers low high
  fresh_covers reaches k inside =
      let p : bound_at high (k / 16) ≡ at_once = all_least high (k / 16) high_least (reaches k inside) in
      let q : bound_at low k ≡ at_once = all_least low k low_least inside in
      subst (λ b. b ≤ℤ bound_at low k) (sym p) (subst (λ b. at_once ≤ℤ b) (sym q) (grind (arith, ints)))

  fresh_nears : ((j : ℕ) → j < length high → j * 16 < length low) → Nears low high
  fresh_nears full j there n most h =
      let inside : j * 16 < length low = full j there in
      let p : n ≤ℤ bound_at low (j * 16) = h (j * 16) inside (omega arith) in
      let q : bound_at low (j * 16) ≡ at_once = all_least low (j * 16) low_least inside in
      let r : bound_at high j ≡ at_once = all_least high j high_least there in
      subst (λ b. n ≤ℤ b) (q ∙ sym r) p

module _ (places blocks groups : List ℤ) (places_least : All (λ b. b ≡ at_once) places) (blocks_least : All (λ b. b ≡ at_once) blocks) (groups_least : All (λ b. b ≡ at_once) groups) where
  pub fresh : (many : length blocks ≡ div_ceil (length places) 16) → (more : length groups ≡ div_ceil (length blocks) 16) → IsTopped (first_top (length places)) places blocks groups
  fresh many more = record {
    layers = record {
      blocks_reach = reach_one;
      groups_reach = reach_two;
      blocks_cover = fresh_covers places blocks places_least blocks_least reach_one;
      groups_cover = fresh_covers blocks groups blocks_least groups_least reach_two;
      blocks_near = fresh_nears places blocks places_least blocks_least (λ j h. let h' : j < div_ceil (length places) 16 = subst (λ n. j < n) many h in omega (arith, h'));
      groups_near = fresh_nears blocks groups blocks_least groups_least (λ j h. let h' : j < div_ceil (length blocks) 16 = subst (λ n. j < n) more h in omega (arith, h'));
    };
    below = λ k h. (let e : nat_eq (length places) 0 ≡ false = some k h in subst (λ m. m ≤ℤ bound_at groups k) (sym (ap (λ b. if b then latest else at_once) e)) (subst (λ b. at_once ≤ℤ b) (sym (all_least groups k groups_least h)) (grind (arith, ints))));
    greatest = greatest;
  }
    where
      reach_one : Reaches places blocks
      reach_one k h = let g : k / 16 < div_ceil (length places) 16 = omega (arith, h) in subst (λ n. k / 16 < n) (sym many) g

      reach_two : Reaches blocks groups
      reach_two k h = let g : k / 16 < div_ceil (length blocks) 16 = omega (arith, h) in subst (λ n. k / 16 < n) (sym more) g

      some : (k : ℕ) → k < length groups → nat_eq (length places) 0 ≡ false
      some k h = grind (arith, h, many, more)

      greatest : IsGreatest (first_top (length places)) groups
      greatest n most h = go (nat_eq (length places) 0) refl
        where
          go : (b : Bool) → nat_eq (length places) 0 ≡ b → n ≤ℤ (if b then latest else at_once)
          go true e = most
          go false e =
              let inside : 0 < length groups = grind (arith, e, many, more) in
              subst (λ b. n ≤ℤ b) (all_least groups 0 groups_least inside) (h 0 inside)

-- none is reached before a place, nor from it on up to a stop
pub in_block_or_before : (bs : List ℤ) (start place stop : ℕ) (now : ℤ) → ((k : ℕ) → start ≤ k → k < place → k < length bs → now <ℤ bound_at bs k) → ((k : ℕ) → place ≤ k → k < stop → now <ℤ bound_at bs k) → (k : ℕ) → start ≤ k → k < stop → k < length bs → now <ℤ bound_at bs k
in_block_or_before bs start place stop now before none k from to inside = go (nat_lt k place) refl
  where
    go : (b : Bool) → nat_lt k place ≡ b → now <ℤ bound_at bs k
    go true e = before k from (grind (arith, e)) inside
    go false e = none k (grind (arith, e)) to
