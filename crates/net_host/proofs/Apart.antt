-- How often a socket had its turn at a moment, by the numbers of moments.
use Rattle.std.proofs.Common.{◌≡◌, ℕ, ℤ, pos, Bool, true, false, Some, None, zero, suc, refl, sym, ap, arith}
use Rattle.std.specs.Prelude.{negsuc, unsigned_abs, ◌-ℤ◌, ◌==◌, if◌then◌else◌}
use Rattle.std.specs.Ordering.{int_eq}
use Rattle.std.proofs.lemmas.Int.{ints}
use Rattle.net_base.specs.declared.time.Instant.{Instant}
use Rattle.sock_core.specs.Bounds.{IsMoment}
use Rattle.host_guard.specs.Guarding.{apart, taken_at}
use Rattle.net_host.specs.Remembered.{moment_from}

no_gap : (a b : ℤ) → a ≡ b → unsigned_abs (b -ℤ a) ≡ 0
no_gap a b is = grind (arith, ints, is)

by_gap : (a b d : ℤ) → b -ℤ a ≡ d → unsigned_abs d ≡ 0 → a ≡ b
by_gap a b (pos n) is none = grind (arith, ints, is, none)
by_gap a b (negsuc n) is none = absurd (grind (arith, none))

module _ (m : ℤ) (taken : ℕ) (now : Instant) where
  pub at_moment : IsMoment now.micros → m ≡ now.micros → taken ≡ taken_at (moment_from m) taken now
  at_moment lawful is = go (int_eq m (negsuc 9223372036854775807)) refl
    where
      go : (b : Bool) → int_eq m (negsuc 9223372036854775807) ≡ b → taken ≡ taken_at (if b then None else Some (record { micros = m })) taken now
      go true e = absurd (grind (arith, ints, e, is, lawful))
      go false e = sym (ap (λ k. if k == 0 then taken else 0) (no_gap m now.micros is))

  pub other_moment : (m ≡ now.micros → ⊥) → 0 ≡ taken_at (moment_from m) taken now
  other_moment differs = go (int_eq m (negsuc 9223372036854775807))
    where
      some : (k : ℕ) → (k ≡ 0 → ⊥) → 0 ≡ (if k == 0 then taken else 0)
      some zero h = absurd (h refl)
      some (suc k) h =
          let e : (suc k == 0) ≡ false = grind (arith) in
          sym (ap (λ b. if b then taken else 0) e)

      go : (b : Bool) → 0 ≡ taken_at (if b then None else Some (record { micros = m })) taken now
      go true = refl
      go false = some (apart now (record { micros = m })) (λ none. differs (by_gap m now.micros (now.micros -ℤ m) refl none))
