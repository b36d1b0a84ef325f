-- The first place that is free, by the marks.
use Rattle.std.proofs.Common.{◌≡◌, ℕ, ◌+◌, ◌<◌, ◌≤◌, ◌/◌, List, length, min, Bool, true, false, not, nat_eq, nat_lt, Option, Some, None, refl, sym, subst, ap, arith}
use Rattle.std.specs.Prelude.{IfSome, slice_get, ◌||◌, if◌then◌else◌}
use Rattle.std.proofs.lemmas.Bool.{and_parts}
use Rattle.std.proofs.lemmas.Option.{slice_get_past}
use Rattle.smoltcp_socket.specs.declared.socket.Socket.{Socket}
use Rattle.host_bounds.specs.Marking.{bit_of}
use Rattle.host_index.specs.declared.entry.Entry.{Entry}
use Rattle.net_host.specs.declared.slot.Slot.{Slot}
use Rattle.net_host.specs.Filing.{keys_in, keys_of}
use Rattle.net_host.specs.Indexing.{IsIndexed, are_filed, is_kept, is_kept_of, is_noted}
use Rattle.net_host.specs.Slots.{IsFree}
use Rattle.net_host.specs.Walks.{Finds, FindsAmong, IsAt, IsFirst, IsFirstAmong}
use Rattle.net_host.proofs.Runs.{not_there}

-- ---- what the marks tell of each place but the one that is lent

module _ {G : Type 0} (complete : Bool) (ss : List (Slot G)) (es : List Entry) (ws : List ℕ) where
  is_on : (k : ℕ) (s : Slot G) → is_kept complete es ws k (keys_of s) ≡ true → IsFree s → bit_of ws k ≡ 1
  is_on k s h free =
      let noted : is_noted ws k (keys_of s).free ≡ true = (and_parts (not complete || are_filed es k (keys_of s)) (is_noted ws k (keys_of s).free) h).1 in
      let is : (keys_of s).free ≡ true = ap (λ (o : Option (Socket G)). (keys_in o).free) free in
      let on : is_noted ws k true ≡ true = subst (λ b. is_noted ws k b ≡ true) is noted in
      let bit : nat_eq (bit_of ws k) 1 ≡ true = (and_parts (nat_lt (k / 64) (length ws)) (nat_eq (bit_of ws k) 1) on).1 in
      grind (arith, bit)

  none_free : (k : ℕ) (o : Option (Slot G)) → is_kept_of (λ s. keys_of s) complete es ws k o ≡ true → (bit_of ws k ≡ 1 → IfSome o (λ s. IsFree s → ⊥)) → IfSome o (λ s. IsFree s → ⊥)
  none_free k None h nay = tt
  none_free k (Some s) h nay = λ free. nay (is_on k s h free) free

  pub found_all : (lent : Option ℕ) → lent ≡ None → IsIndexed (λ s. keys_of s) complete lent ss es ws → (r : Option ℕ) → FindsAmong (λ k. bit_of ws k ≡ 1) (λ s. IsFree s) ss r → Finds (λ s. IsFree s) ss r
  found_all lent none kept r h = go r h
    where
      each : IsIndexed (λ s. keys_of s) complete None ss es ws
      each = subst (λ l. IsIndexed (λ s. keys_of s) complete l ss es ws) none kept

      go : (r : Option ℕ) → FindsAmong (λ k. bit_of ws k ≡ 1) (λ s. IsFree s) ss r → Finds (λ s. IsFree s) ss r
      go None h = λ k. none_free k (slice_get ss k) (each k) (h k)
      go (Some i) h = record { within = h.within; holds = h.holds; before = λ k less. none_free k (slice_get ss k) (each k) (h.before k less) }

  pub found_but : (lent : Option ℕ) (l : ℕ) → lent ≡ Some l → IsIndexed (λ s. keys_of s) complete lent ss es ws → (r : Option ℕ) → FindsAmong (λ k. bit_of ws k ≡ 1) (λ s. IsFree s) ss r → FindsAmong (λ k. nat_eq k l ≡ false) (λ s. IsFree s) ss r
  found_but lent l is kept r h = go r h
    where
      each : (k : ℕ) → nat_eq k l ≡ false → is_kept_of (λ s. keys_of s) complete es ws k (slice_get ss k) ≡ true
      each k other = subst (λ b. (if b then nat_lt (k / 64) (length ws) else is_kept_of (λ s. keys_of s) complete es ws k (slice_get ss k)) ≡ true) other (subst (λ o. IsIndexed (λ s. keys_of s) complete o ss es ws) is kept k)

      go : (r : Option ℕ) → FindsAmong (λ k. bit_of ws k ≡ 1) (λ s. IsFree s) ss r → FindsAmong (λ k. nat_eq k l ≡ false) (λ s. IsFree s) ss r
      go None h = λ k other. none_free k (slice_get ss k) (each k other) (h k)
      go (Some i) h = record { within = h.within; holds = h.holds; before = λ k less other. none_free k (slice_get ss k) (each k other) (h.before k less) }

-- ---- a walk from mark to mark

no_one : (n : ℕ) → n ≡ 0 → n ≡ 1 → ⊥
no_one n h e = omega (arith, h, e)

module _ {X : Type 0} (P : X → Type 0) (xs : List X) (ws : List ℕ) (p : ℕ) where
  pub begins_at : ((k : ℕ) → 0 ≤ k → k < p → bit_of ws k ≡ 0) → (k : ℕ) → k < p → bit_of ws k ≡ 1 → IfSome (slice_get xs k) (λ x. P x → ⊥)
  begins_at zeros k below on = absurd (no_one (bit_of ws k) (zeros k (omega arith) below) on)

  module _ (before : (k : ℕ) → k < p → bit_of ws k ≡ 1 → IfSome (slice_get xs k) (λ x. P x → ⊥)) where
    pub found_on : IsAt P xs p → FindsAmong (λ k. bit_of ws k ≡ 1) P xs (Some p)
    found_on is = record { within = is.within; holds = is.holds; before = before }

    pub none_on : length xs ≤ p → FindsAmong (λ k. bit_of ws k ≡ 1) P xs None
    none_on past = λ k on. go k on (nat_lt k p) refl
      where
        go : (k : ℕ) → bit_of ws k ≡ 1 → (b : Bool) → nat_lt k p ≡ b → IfSome (slice_get xs k) (λ x. P x → ⊥)
        go k on true e = before k (grind (arith, e)) on
        go k on false e =
            let beyond : length xs ≤ k = grind (arith, e, past) in
            subst (λ o. IfSome o (λ x. P x → ⊥)) (sym (slice_get_past xs k beyond)) tt

    pub goes_past : (q : ℕ) → (IsAt P xs p → ⊥) → ((k : ℕ) → p + 1 ≤ k → k < q → bit_of ws k ≡ 0) → (k : ℕ) → k < q → bit_of ws k ≡ 1 → IfSome (slice_get xs k) (λ x. P x → ⊥)
    goes_past q nay zeros k below on = go (nat_lt k p) refl (nat_eq k p) refl
      where
        go : (b : Bool) → nat_lt k p ≡ b → (d : Bool) → nat_eq k p ≡ d → IfSome (slice_get xs k) (λ x. P x → ⊥)
        go true e d f = before k (grind (arith, e)) on
        go false e true f =
            let same : p ≡ k = grind (arith, f) in
            subst (λ j. IfSome (slice_get xs j) (λ x. P x → ⊥)) same (not_there P xs p nay)
        go false e false f =
            let after : p + 1 ≤ k = grind (arith, e, f) in
            absurd (no_one (bit_of ws k) (zeros k after below) on)

-- ---- one place more

module _ {X : Type 0} (P : X → Type 0) (xs : List X) (place : ℕ) where
  pub not_here : (IsAt P xs place → ⊥) → (r : Option ℕ) → FindsAmong (λ k. nat_eq k place ≡ false) P xs r → Finds P xs r
  not_here nay r h = go r h
    where
      at : (k : ℕ) → (nat_eq k place ≡ false → IfSome (slice_get xs k) (λ x. P x → ⊥)) → IfSome (slice_get xs k) (λ x. P x → ⊥)
      at k other = by (nat_eq k place) refl
        where
          by : (b : Bool) → nat_eq k place ≡ b → IfSome (slice_get xs k) (λ x. P x → ⊥)
          by false e = other e
          by true e =
              let same : place ≡ k = grind (arith, e) in
              subst (λ j. IfSome (slice_get xs j) (λ x. P x → ⊥)) same (not_there P xs place nay)

      go : (r : Option ℕ) → FindsAmong (λ k. nat_eq k place ≡ false) P xs r → Finds P xs r
      go None h = λ k. at k (h k)
      go (Some i) h = record { within = h.within; holds = h.holds; before = λ k less. at k (h.before k less) }

  pub here_alone : IsAt P xs place → FindsAmong (λ k. nat_eq k place ≡ false) P xs None → IsFirst P xs place
  here_alone is h = record { within = is.within; holds = is.holds; before = λ k less. h k (grind (arith, less)) }

  pub here_or_before : IsAt P xs place → (i : ℕ) → IsFirstAmong (λ k. nat_eq k place ≡ false) P xs i → (m : ℕ) → m ≡ min i place → IsFirst P xs m
  here_or_before is i h m made = go (nat_lt i place) refl
    where
      go : (b : Bool) → nat_lt i place ≡ b → IsFirst P xs m
      go true e =
          let less : i < place = grind (arith, e) in
          let same : i ≡ m = omega (arith, made, less) in
          subst (λ n. IsFirst P xs n) same (record { within = h.within; holds = h.holds; before = λ k before. h.before k before (grind (arith, less, before)) })
      go false e =
          let most : place ≤ i = grind (arith, e) in
          let same : place ≡ m = omega (arith, made, most) in
          subst (λ n. IsFirst P xs n) same (record { within = is.within; holds = is.holds; before = λ k before. h.before k (omega (arith, most, before)) (grind (arith, before)) })
