-- What `dequeue` answers, from what `take_first` took and what `lent` then lends.
use Rattle.std.proofs.Common.{◌≡◌, ℕ, ◌<◌, List, length, take, drop, Bor, Option, None, Some, refl, ap, ◌∙◌}
use Rattle.std.proofs.lemmas.Bool.{false≢true}
use Rattle.std.specs.Prelude.{Result, Ok, Err, IsOk, IsSome, IfOk, IfSome, ◌↔◌}

module _ {X E : Type 0} where
  pub same_variant : (n : ℕ) (r : Result (X × Bor (List ℕ)) E) (t : Option (X × (ℕ × ℕ))) → (IsOk r ↔ IsSome t) → (IsSome t ↔ (0 < n)) → (IsOk r ↔ (0 < n))
  same_variant n r t h h' = ((λ k. h'.0 (h.0 k)), (λ k. h.1 (h'.1 k)))

  pub same_value : (p : Option (X × List ℕ)) (bytes : List ℕ) (r : Result (X × Bor (List ℕ)) E) (t : Option (X × (ℕ × ℕ))) → (IsOk r ↔ IsSome t)
      → IfOk r (λ r. IfSome t (λ t. (t.0 ≡ r.0) × (take t.1.1 (drop t.1.0 bytes) ≡ r.1.now)))
      → IfSome t (λ t. p ≡ Some (t.0, take t.1.1 (drop t.1.0 bytes)))
      → IfOk r (λ r. p ≡ Some (r.0, r.1.now))
  same_value p bytes (Err e) t h k s = tt
  same_value p bytes (Ok r) (Some t) h k s = s ∙ ap Some (λ i. (k.0 i, k.1 i))
  same_value p bytes (Ok r) None h k s = absurd (false≢true (h.0 refl))
