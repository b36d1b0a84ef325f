-- A walk that changes some elements, one after the other, and goes past those that need no change.
use Rattle.std.proofs.Common.{◌≡◌, ℕ, ◌+◌, ◌<◌, ◌≤◌, List, length, Bool, true, false, nat_lt, Option, Some, None, refl, sym, subst, arith}
use Rattle.std.specs.Prelude.{IfSome, slice_get}
use Rattle.std.proofs.lemmas.Option.{slice_get_past}
use Rattle.net_host.specs.Walks.{Both, ChangesAt, ChangesEach, Finds, IsAt, Nowhere}
use Rattle.net_host.proofs.Each.{step_done, step_left, step_len}
use Rattle.net_host.proofs.Runs.{not_there}

module _ {X : Type 0} (R : X → X → Type 0) (xs : List X) where
  -- those before `from` are changed so, and those from it on are as they were
  pub record Reached (from : ℕ) (ys : List X) : Type 0 where
    pub len : length ys ≡ length xs
    pub done : (k : ℕ) → k < from → Both R (slice_get xs k) (slice_get ys k)
    pub left : (k : ℕ) → from ≤ k → slice_get ys k ≡ slice_get xs k

  pub starts : Reached 0 xs
  starts = record { len = refl; done = λ k h. absurd (omega (arith, h)); left = λ k h. refl }

  both_itself : (o : Option X) → IfSome o (λ x. R x x) → Both R o o
  both_itself None h = tt
  both_itself (Some x) h = h

  module _ (from : ℕ) (ys : List X) (r : Reached from ys) where
    done_until : (i : ℕ) → ((k : ℕ) → from ≤ k → k < i → IfSome (slice_get xs k) (λ x. R x x)) → (k : ℕ) → k < i → Both R (slice_get xs k) (slice_get ys k)
    done_until i idle k below = go (nat_lt k from) refl
      where
        go : (b : Bool) → nat_lt k from ≡ b → Both R (slice_get xs k) (slice_get ys k)
        go true e = r.done k (grind (arith, e))
        go false e =
            let least : from ≤ k = grind (arith, e) in
            subst (λ o. Both R (slice_get xs k) o) (sym (r.left k least)) (both_itself (slice_get xs k) (idle k least below))

    left_from : (i : ℕ) → from ≤ i → (k : ℕ) → i ≤ k → slice_get ys k ≡ slice_get xs k
    left_from i behind k h = r.left k (omega (arith, behind, h))

    -- the element at i is changed, and those before it need no change
    pub goes_on : (i : ℕ) (zs : List X) → from ≤ i → ((k : ℕ) → from ≤ k → k < i → IfSome (slice_get xs k) (λ x. R x x)) → ChangesAt R ys i zs → Reached (i + 1) zs
    goes_on i zs behind idle c = record {
      len = step_len R xs ys zs i c r.len;
      done = step_done R xs ys zs i c (done_until i idle) (left_from i behind);
      left = step_left R xs ys zs i c (left_from i behind);
    }

    -- those that are left need no change
    pub ends : ((k : ℕ) → from ≤ k → k < length xs → IfSome (slice_get xs k) (λ x. R x x)) → ChangesEach R xs ys
    ends idle k = go (nat_lt k (length xs)) refl
      where
        go : (b : Bool) → nat_lt k (length xs) ≡ b → Both R (slice_get xs k) (slice_get ys k)
        go true e = done_until (length xs) idle k (grind (arith, e))
        go false e =
            let past : length xs ≤ k = grind (arith, e) in
            let past_too : length ys ≤ k = subst (λ n. n ≤ k) (sym r.len) past in
            subst (λ o. Both R o (slice_get ys k)) (sym (slice_get_past xs k past)) (subst (λ o. Both R None o) (sym (slice_get_past ys k past_too)) tt)

-- ---- a walk that looks for an element

module _ {X : Type 0} (P : X → Type 0) (xs : List X) (from : ℕ) (before : (k : ℕ) → k < from → IfSome (slice_get xs k) (λ x. P x → ⊥)) (end : ℕ) (idle : (k : ℕ) → from ≤ k → k < end → IfSome (slice_get xs k) (λ x. P x → ⊥)) where
  none_until : (k : ℕ) → k < end → IfSome (slice_get xs k) (λ x. P x → ⊥)
  none_until k below = go (nat_lt k from) refl
    where
      go : (b : Bool) → nat_lt k from ≡ b → IfSome (slice_get xs k) (λ x. P x → ⊥)
      go true e = before k (grind (arith, e))
      go false e = idle k (grind (arith, e)) below

  pub found_there : IsAt P xs end → Finds P xs (Some end)
  found_there at = record { within = at.within; holds = at.holds; before = none_until }

  pub not_found : (IsAt P xs end → ⊥) → (k : ℕ) → k < end + 1 → IfSome (slice_get xs k) (λ x. P x → ⊥)
  not_found nay k below = go (nat_lt k end) refl
    where
      go : (b : Bool) → nat_lt k end ≡ b → IfSome (slice_get xs k) (λ x. P x → ⊥)
      go true e = none_until k (grind (arith, e))
      go false e =
          let same : end ≡ k = grind (arith, e, below) in
          subst (λ j. IfSome (slice_get xs j) (λ x. P x → ⊥)) same (not_there P xs end nay)

  pub nowhere : end ≡ length xs → Nowhere P xs
  nowhere whole k = go (nat_lt k end) refl
    where
      go : (b : Bool) → nat_lt k end ≡ b → IfSome (slice_get xs k) (λ x. P x → ⊥)
      go true e = none_until k (grind (arith, e))
      go false e =
          let past : length xs ≤ k = grind (arith, e, whole) in
          subst (λ o. IfSome o (λ x. P x → ⊥)) (sym (slice_get_past xs k past)) tt
