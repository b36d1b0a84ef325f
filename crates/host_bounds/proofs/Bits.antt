-- Bits of words.
use Rattle.std.proofs.Common.{◌≡◌, ◌∙◌, ℕ, ◌+◌, ◌-◌, ◌*◌, ◌/◌, ◌%◌, ◌^◌, ◌<◌, ◌≤◌, Bool, true, false, List, length, get_or, min, nat_eq, nat_lt, suc, zero, refl, sym, ap, subst, arith}
use Rattle.std.specs.Prelude.{slice_set, bit_and, bit_or}
use Rattle.std.specs.Int.{bit_at}
use Rattle.std.specs.Int.{w64}
use Rattle.std.specs.Int.Count.{count_trailing_zeros}
use Rattle.std.proofs.Math.Nat.{div-div-eq-div-mul, pow-succ'}
use Rattle.std.proofs.lemmas.Nat.{shr_le}
use Rattle.std.proofs.lemmas.List.{length-set, get_or-set_other, get_or-set_same, get_or_past}
use Rattle.std.proofs.lemmas.List.Elements.{All-get_or}
use Rattle.std.proofs.lemmas.Nat.Bits.{bit_at-lt, bit_at_above, bit_at-suc, bit_at-trailing_zeros, bit_at-zero, bit_at_clear_other, bit_at_clear_same, bit_at_set_other, bit_at_set_same, bit_at_ones}
use Rattle.host_bounds.specs.Marking.{AreNoted, Clears, IsBusy, IsFull, IsNextMark, IsNextOne, Sets, bit_of}

pub shifted : (k n i : ℕ) → bit_at n (k + i) ≡ bit_at (n / 2 ^ k) i
shifted zero n i =
    let none : 0 + i ≡ i = omega arith in
    let one : n ≡ n / 2 ^ 0 = omega arith in
    ap (bit_at n) none ∙ ap (λ m. bit_at m i) one
shifted (suc k) n i =
    let next : suc k + i ≡ suc (k + i) = omega arith in
    let twice : 2 * 2 ^ k ≡ 2 ^ suc k = sym (pow-succ' 2 k) in
    ap (bit_at n) next ∙ bit_at-suc n (k + i) ∙ shifted k (n / 2) i ∙ ap (λ m. bit_at m i) (div-div-eq-div-mul n 2 (2 ^ k) ∙ ap (λ m. n / m) twice)

zeros_of : (m j : ℕ) → m < 2 ^ 64 → j < count_trailing_zeros 64 m → bit_at m j ≡ 0
zeros_of zero j fits below = bit_at-zero j
zeros_of (suc m) j fits below = (bit_at-trailing_zeros w64 (suc m) (omega arith) fits).2 j below

pub zeros_behind : (n k i : ℕ) → n < 2 ^ 64 → k ≤ i → i < k + count_trailing_zeros 64 (n / 2 ^ k) → bit_at n i ≡ 0
zeros_behind n k i fits from to =
    let is : k + (i - k) ≡ i = omega (arith, from) in
    let less : n / 2 ^ k ≤ n = shr_le n k in
    let small : n / 2 ^ k < 2 ^ 64 = omega (arith, fits, less) in
    let below : i - k < count_trailing_zeros 64 (n / 2 ^ k) = omega (arith, from, to) in
    ap (bit_at n) (sym is) ∙ shifted k n (i - k) ∙ zeros_of (n / 2 ^ k) (i - k) small below

-- ---- one word is written

pub bit_here : (ws : List ℕ) (w y k : ℕ) → w < length ws → k / 64 ≡ w → bit_of (slice_set ws w y) k ≡ bit_at y (k % 64)
bit_here ws w y k within is = ap (λ n. bit_at (get_or (slice_set ws w y) n 0) (k % 64)) is ∙ ap (λ x. bit_at x (k % 64)) (get_or-set_same ws w y 0 within)

pub bit_elsewhere : (ws : List ℕ) (w y k : ℕ) → (k / 64 ≡ w → ⊥) → bit_of (slice_set ws w y) k ≡ bit_of ws k
bit_elsewhere ws w y k differs = ap (λ x. bit_at x (k % 64)) (get_or-set_other ws w (k / 64) y 0 differs)

no_equal : (a b : ℕ) → nat_eq a b ≡ false → a ≡ b → ⊥
no_equal a b h e = absurd (grind (arith, h, e))

module _ (ws : List ℕ) (place x : ℕ) (within : place / 64 < length ws) (is : x ≡ get_or ws (place / 64) 0) where
  bit : ℕ
  bit = place % 64

  small : place % 64 < 64
  small = omega arith

  differs : (k : ℕ) → nat_eq k place ≡ false → k / 64 ≡ place / 64 → k % 64 ≡ place % 64 → ⊥
  differs k h e f = no_equal k place h (omega (arith, e, f))

  was : (k : ℕ) → k / 64 ≡ place / 64 → bit_at x (k % 64) ≡ bit_of ws k
  was k e = ap (λ n. bit_at n (k % 64)) (is ∙ ap (λ n. get_or ws n 0) (sym e))

  pub sets_bit : Sets place ws (slice_set ws (place / 64) (bit_or x (1 * 2 ^ (place % 64) % 18446744073709551616)))
  sets_bit = record {
    len = length-set ws (place / 64) _;
    here = bit_here ws (place / 64) _ place within refl ∙ bit_at_set_same w64 x (place % 64) small;
    others = λ k h. go k h (nat_eq (k / 64) (place / 64)) refl;
  }
    where
      go : (k : ℕ) → nat_eq k place ≡ false → (b : Bool) → nat_eq (k / 64) (place / 64) ≡ b → bit_of (slice_set ws (place / 64) (bit_or x (1 * 2 ^ (place % 64) % 18446744073709551616))) k ≡ bit_of ws k
      go k h true e =
          let same : k / 64 ≡ place / 64 = grind (arith, e) in
          bit_here ws (place / 64) _ k within same ∙ bit_at_set_other w64 x (place % 64) small (k % 64) (differs k h same) ∙ was k same
      go k h false e = bit_elsewhere ws (place / 64) _ k (no_equal (k / 64) (place / 64) e)

  pub clears_bit : Clears place ws (slice_set ws (place / 64) (bit_and x (18446744073709551615 - 1 * 2 ^ (place % 64) % 18446744073709551616)))
  clears_bit = record {
    len = length-set ws (place / 64) _;
    here = bit_here ws (place / 64) _ place within refl ∙ bit_at_clear_same w64 x (place % 64) small;
    others = λ k h. go k h (nat_eq (k / 64) (place / 64)) refl;
  }
    where
      go : (k : ℕ) → nat_eq k place ≡ false → (b : Bool) → nat_eq (k / 64) (place / 64) ≡ b → bit_of (slice_set ws (place / 64) (bit_and x (18446744073709551615 - 1 * 2 ^ (place % 64) % 18446744073709551616))) k ≡ bit_of ws k
      go k h true e =
          let same : k / 64 ≡ place / 64 = grind (arith, e) in
          let low : k % 64 < 64 = omega arith in
          bit_here ws (place / 64) _ k within same ∙ bit_at_clear_other w64 x (place % 64) small (k % 64) low (differs k h same) ∙ was k same
      go k h false e = bit_elsewhere ws (place / 64) _ k (no_equal (k / 64) (place / 64) e)

-- ---- words that are not 0

no_one : (n : ℕ) → n ≡ 0 → n ≡ 1 → ⊥
no_one n h e = absurd (omega (arith, h, e))

module _ (marks marks' words words' : List ℕ) (place : ℕ) (busy : IsBusy marks words) where
  pub busy_with : Sets place marks marks' → Sets (place / 64) words words' → IsBusy marks' words'
  busy_with low high k h = go (nat_eq (k / 64) (place / 64)) refl
    where
      go : (b : Bool) → nat_eq (k / 64) (place / 64) ≡ b → bit_of words' (k / 64) ≡ 1
      go true e =
          let same : k / 64 ≡ place / 64 = grind (arith, e) in
          ap (bit_of words') same ∙ high.here
      go false e =
          let other : nat_eq k place ≡ false = grind (arith, e) in
          high.others (k / 64) e ∙ busy k (sym (low.others k other) ∙ h)

  pub busy_without : Clears place marks marks' → IsBusy marks' words
  busy_without low k h = go (nat_eq k place) refl
    where
      go : (b : Bool) → nat_eq k place ≡ b → bit_of words (k / 64) ≡ 1
      go true e =
          let same : k ≡ place = grind (arith, e) in
          absurd (no_one (bit_of marks' k) (ap (bit_of marks') same ∙ low.here) h)
      go false e = busy k (sym (low.others k e) ∙ h)

  pub busy_but : Clears place marks marks' → Clears (place / 64) words words' → ((k : ℕ) → k / 64 ≡ place / 64 → bit_of marks' k ≡ 0) → IsBusy marks' words'
  busy_but low high empty k h = go (nat_eq (k / 64) (place / 64)) refl
    where
      go : (b : Bool) → nat_eq (k / 64) (place / 64) ≡ b → bit_of words' (k / 64) ≡ 1
      go true e =
          let same : k / 64 ≡ place / 64 = grind (arith, e) in
          absurd (no_one (bit_of marks' k) (empty k same) h)
      go false e = high.others (k / 64) e ∙ busy_without low k h

-- all are ones
pub full_bit : (ws : List ℕ) (k : ℕ) → IsFull ws → k / 64 < length ws → bit_of ws k ≡ 1
full_bit ws k full within =
    let low : k % 64 < 64 = omega arith in
    ap (λ x. bit_at x (k % 64)) (All-get_or (λ w. w ≡ 18446744073709551615) ws (k / 64) 0 within full) ∙ bit_at_ones 64 (k % 64) low

pub full_noted : (marks words : List ℕ) → length marks ≤ 288230376151711744 → ((k : ℕ) → k < length marks → k / 64 < length words) → IsFull words → AreNoted marks words
full_noted marks words few reach full = record { few = few; reach = reach; busy = λ k h. busy k h (nat_lt (k / 64) (length marks)) refl }
  where
    busy : (k : ℕ) → bit_of marks k ≡ 1 → (b : Bool) → nat_lt (k / 64) (length marks) ≡ b → bit_of words (k / 64) ≡ 1
    busy k h true e = full_bit words (k / 64) full (reach (k / 64) (grind (arith, e)))
    busy k h false e =
        let beyond : length marks ≤ k / 64 = grind (arith, e) in
        let p : bit_of marks k ≡ 0 = ap (λ x. bit_at x (k % 64)) (get_or_past marks (k / 64) 0 beyond) ∙ bit_at-zero (k % 64) in
        absurd (no_one (bit_of marks k) p h)

pub noted_still : (marks marks' words words' : List ℕ) → length marks' ≡ length marks → length words' ≡ length words → IsBusy marks' words' → AreNoted marks words → AreNoted marks' words'
noted_still marks marks' words words' same len busy was = record { few = subst (λ n. n ≤ 288230376151711744) (sym same) was.few; reach = λ k h. subst (λ n. k / 64 < n) (sym len) (was.reach k (subst (λ n. k < n) same h)); busy = busy }

-- ---- what is found

module _ (word bit : ℕ) (fits : word < 2 ^ 64) where
  pub one_found : 0 < word / 2 ^ bit → IsNextOne word bit (count_trailing_zeros 64 (word / 2 ^ bit))
  one_found some =
      let less : word / 2 ^ bit ≤ word = shr_le word bit in
      let small : word / 2 ^ bit < 2 ^ 64 = omega (arith, fits, less) in
      let one : bit_at word (bit + count_trailing_zeros 64 (word / 2 ^ bit)) ≡ 1 = shifted bit word (count_trailing_zeros 64 (word / 2 ^ bit)) ∙ (bit_at-trailing_zeros w64 (word / 2 ^ bit) some small).1 in
      record {
        within = within (bit + count_trailing_zeros 64 (word / 2 ^ bit)) one;
        one = one;
        before = λ i from to. zeros_behind word bit i fits from to;
      }
    where
      within : (i : ℕ) → bit_at word i ≡ 1 → i < 64
      within i one = go (nat_lt i 64) refl
        where
          go : (b : Bool) → nat_lt i 64 ≡ b → i < 64
          go true e = grind (arith, e)
          go false e = absurd (no_one (bit_at word i) (bit_at_above word 64 i fits (grind (arith, e))) one)

  pub none_found : word / 2 ^ bit ≡ 0 → (i : ℕ) → bit ≤ i → bit_at word i ≡ 0
  none_found none i from =
      let is : bit + (i - bit) ≡ i = omega (arith, from) in
      ap (bit_at word) (sym is) ∙ shifted bit word (i - bit) ∙ ap (λ n. bit_at n (i - bit)) none ∙ bit_at-zero (i - bit)

module _ (marks : List ℕ) where
  -- in the word of the start
  pub next_here : (start zeros : ℕ) → IsNextOne (get_or marks (start / 64) 0) (start % 64) zeros → IsNextMark marks start (start + zeros)
  next_here start zeros found = record {
    behind = omega arith;
    before = before;
    marked = λ small there. ap (λ n. bit_at (get_or marks n 0) ((start + zeros) % 64)) word ∙ ap (bit_at (get_or marks (start / 64) 0)) bit ∙ found.one;
  }
    where
      word : (start + zeros) / 64 ≡ start / 64
      word = let h : start % 64 + zeros < 64 = found.within in omega (arith, h)

      bit : (start + zeros) % 64 ≡ start % 64 + zeros
      bit = let h : start % 64 + zeros < 64 = found.within in omega (arith, h)

      before : (k : ℕ) → start ≤ k → k < start + zeros → bit_of marks k ≡ 0
      before k from to =
          let h : start % 64 + zeros < 64 = found.within in
          let same : k / 64 ≡ start / 64 = omega (arith, from, to, h) in
          ap (λ n. bit_at (get_or marks n 0) (k % 64)) same ∙ found.before (k % 64) (omega (arith, from, same)) (omega (arith, to, same, h))

  -- none in the rest of a word
  pub none_here : (start : ℕ) → ((i : ℕ) → start % 64 ≤ i → bit_at (get_or marks (start / 64) 0) i ≡ 0) → (k : ℕ) → start ≤ k → k / 64 ≡ start / 64 → bit_of marks k ≡ 0
  none_here start none k from same = ap (λ n. bit_at (get_or marks n 0) (k % 64)) same ∙ none (k % 64) (omega (arith, from, same))

  -- in a word behind
  pub next_there : (start word zeros : ℕ) → start / 64 + 1 ≤ word → ((k : ℕ) → start ≤ k → k < word * 64 → bit_of marks k ≡ 0) → IsNextOne (get_or marks word 0) 0 zeros → IsNextMark marks start (word * 64 + zeros)
  next_there start word zeros behind none found = record {
    behind = omega (arith, behind);
    before = before;
    marked = λ small there. ap (λ n. bit_at (get_or marks n 0) ((word * 64 + zeros) % 64)) (whole zeros found.within) ∙ ap (bit_at (get_or marks word 0)) (rest zeros found.within) ∙ found.one;
  }
    where
      whole : (z : ℕ) → 0 + z < 64 → (word * 64 + z) / 64 ≡ word
      whole z h = omega (arith, h)

      rest : (z : ℕ) → 0 + z < 64 → (word * 64 + z) % 64 ≡ 0 + z
      rest z h = omega (arith, h)

      before : (k : ℕ) → start ≤ k → k < word * 64 + zeros → bit_of marks k ≡ 0
      before k from to = go (nat_lt k (word * 64)) refl
        where
          go : (b : Bool) → nat_lt k (word * 64) ≡ b → bit_of marks k ≡ 0
          go true e = none k from (grind (arith, e))
          go false e =
              let h : 0 + zeros < 64 = found.within in
              let past : word * 64 ≤ k = grind (arith, e) in
              let same : k / 64 ≡ word = omega (arith, past, to, h) in
              ap (λ n. bit_at (get_or marks n 0) (k % 64)) same ∙ found.before (k % 64) (omega arith) (omega (arith, to, past, h))

  -- the words up to the next one that has a mark
  pub none_up_to : (words : List ℕ) (start word next : ℕ) → IsBusy marks words → ((k : ℕ) → start ≤ k → k < word * 64 → bit_of marks k ≡ 0) → ((i : ℕ) → 0 ≤ i → bit_at (get_or marks word 0) i ≡ 0) → ((v : ℕ) → word + 1 ≤ v → v < next → bit_of words v ≡ 0) → (k : ℕ) → start ≤ k → k < next * 64 → bit_of marks k ≡ 0
  none_up_to words start word next busy none here behind k from to = go (nat_lt (k / 64) word) refl (nat_eq (k / 64) word) refl
    where
      go : (b : Bool) → nat_lt (k / 64) word ≡ b → (d : Bool) → nat_eq (k / 64) word ≡ d → bit_of marks k ≡ 0
      go true e d f = let before : k / 64 < word = grind (arith, e) in none k from (omega (arith, before))
      go false e true f =
          let same : k / 64 ≡ word = grind (arith, f) in
          ap (λ n. bit_at (get_or marks n 0) (k % 64)) same ∙ here (k % 64) (omega arith)
      go false e false f =
          let after : word + 1 ≤ k / 64 = grind (arith, e, f) in
          let before : k / 64 < next = omega (arith, to) in
          zero_or (behind (k / 64) after before)
        where
          zero_or : bit_of words (k / 64) ≡ 0 → bit_of marks k ≡ 0
          zero_or none_of = by (bit_of marks k) refl (bit_at-lt (get_or marks (k / 64) 0) (k % 64))
            where
              by : (n : ℕ) → bit_of marks k ≡ n → bit_at (get_or marks (k / 64) 0) (k % 64) < 2 → bit_of marks k ≡ 0
              by zero is less = is
              by (suc n) is less =
                  let one : bit_of marks k ≡ 1 = omega (arith, is, less) in
                  absurd (no_one (bit_of words (k / 64)) none_of (busy k one))

  -- none in the words that there are
  pub none_there : (start word result : ℕ) → start < 2 ^ 64 → start / 64 + 1 ≤ word → length marks ≤ word → ((k : ℕ) → start ≤ k → k < word * 64 → bit_of marks k ≡ 0) → result ≡ min (word * 64) 18446744073709551615 → IsNextMark marks start result
  none_there start word result fits behind past none is = record {
    behind = omega (arith, behind, is, fits);
    before = λ k from to. none k from (omega (arith, to, is));
    marked = λ small there. absurd (omega (arith, small, there, is, past));
  }
