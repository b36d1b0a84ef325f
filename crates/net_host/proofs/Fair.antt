-- Turns go round.
use Rattle.std.proofs.Common.{◌≡◌, ◌∙◌, ℕ, ◌+◌, ◌<◌, ◌≤◌, List, [], ◌∷◌, ◌++◌, length, Bool, true, false, nat_eq, nat_le, nat_lt, Option, Some, None, inl, inr, suc, zero, refl, sym, subst, ap, arith}
use Rattle.std.specs.Prelude.{IfSome, Result, slice_get, ◌&&◌, ◌||◌}
use Rattle.std.proofs.lemmas.Option.{slice_get_past}
use Rattle.sock_core.specs.Facts.{Facts}
use Rattle.net_host.specs.Fairness.{EndsWith, Follow, HasTurn, IsDueThroughout, Turn, TurnsFollow, TurnsGoOn, TurnsGoRound, turn_of, turns_of}
use Rattle.net_host.specs.Speaking.{Due, Packet, Quiet, Short, Silent, Speaks}
use Rattle.net_host.specs.Walks.{passes}
use Rattle.net_host.specs.declared.counters.Counters.{Counters}
use Rattle.net_host.specs.declared.guard.GuardSettings.{GuardSettings}
use Rattle.net_host.specs.declared.slot.Slot.{Slot}
use Rattle.net_host.specs.declared.wire.TooShort.{TooShort}

-- ---- places in turn

-- a walk that would pass k before it comes to i has its turn at j, and did not pass k: so the next one will
goes : (t j i k : ℕ) → passes t i k ≡ true → passes t j k ≡ false → (k ≡ j → ⊥) → passes (j + 1) i k ≡ true
goes t j i k ahead not_yet other = by (nat_le t i) refl (nat_le t j) refl (nat_le (j + 1) i) refl
  where
    by : (a : Bool) → nat_le t i ≡ a → (b : Bool) → nat_le t j ≡ b → (c : Bool) → nat_le (j + 1) i ≡ c → passes (j + 1) i k ≡ true
    by a ea b eb c ec = grind (arith, ahead, not_yet, other, ea, eb, ec)

begins : (i k : ℕ) → (k ≡ i → ⊥) → passes (i + 1) i k ≡ true
begins i k other = grind (arith, other)

due_there : {G : Type 0} (f : Facts) (o : Option (Slot G)) → (o ≡ None → ⊥) → IfSome o (Due f) → IfSome o (λ s. Due f s → ⊥) → ⊥
due_there f None there h n = there refl
due_there f (Some s) there h n = n h

no_none : {X : Type 0} (xs : List X) (k : ℕ) → k < length xs → slice_get xs k ≡ None → ⊥
no_none [] k h e = absurd (omega (arith, h))
no_none (x ∷ xs) zero h e = cc
no_none (x ∷ xs) (suc k) h e = no_none xs k (omega (arith, h)) e

module _ {G : Type 0} where
  not_passed : (u : Turn G) (k : ℕ) → k < length u.seen → IfSome (slice_get u.seen k) (Due u.facts) → passes u.from u.place k ≡ true → ⊥
  not_passed u k within due h = due_there u.facts (slice_get u.seen k) (no_none u.seen k within) due (u.next.passed k h)

  ahead : (us : List (Turn G)) (i k t end : ℕ) → Follow t us end → EndsWith i us → IsDueThroughout k us → passes t i k ≡ true → HasTurn k us
  ahead [] i k t end f e d h = absurd e
  ahead (u ∷ []) i k t end f e d h = absurd (not_passed u k d.0.0 d.0.1 (subst (λ a. passes a u.place k ≡ true) (sym f.0) (subst (λ b. passes t b k ≡ true) (sym e) h)))
  ahead (u ∷ (v ∷ us)) i k t end f e d h = by (λ on. ahead (v ∷ us) i k (u.place + 1) end f.1 e d.1 on) (nat_eq k u.place) refl (passes u.from u.place k) refl
    where
      by : (passes (u.place + 1) i k ≡ true → HasTurn k (v ∷ us)) → (a : Bool) → nat_eq k u.place ≡ a → (b : Bool) → passes u.from u.place k ≡ b → HasTurn k (u ∷ (v ∷ us))
      by later true same b q = inl (grind (arith, same))
      by later false other true q = absurd (not_passed u k d.0.0 d.0.1 q)
      by later false other false q =
          let differs : (k ≡ u.place → ⊥) = λ is. absurd (grind (arith, other, is)) in
          let on : passes (u.place + 1) i k ≡ true = goes u.from u.place i k (subst (λ a. passes a i k ≡ true) (sym f.0) h) q differs in
          inr (later on)

  pub go_round : TurnsGoRound G
  go_round us i k end f e d other = ahead us i k (i + 1) end f e d (begins i k other)

  pub go_on : TurnsGoOn G
  go_on [] vs t t' t'' f g = subst (λ a. Follow a vs t'') f g
  go_on (u ∷ us) vs t t' t'' f g = (f.0, go_on us vs (u.place + 1) t' t'' f.1 g)

  pub follow : (tells : G → ℕ → Type 0) → TurnsFollow tells
  unfolding turns_of
  follow tells f st ss turn k out r ts turn' k' out' (Quiet _ _ _ _ _ h) = refl
  follow tells f st ss turn k out r ts turn' k' out' (Packet _ _ _ _ _ _ _ _ _ next h some) = (refl, refl)
  follow tells f st ss turn k out r ts turn' k' out' (Short _ _ _ _ _ _ _ _ _ x next h) = (refl, refl)
  follow tells f st ss turn k out r ts turn' k' out' (Silent _ _ us _ _ i _ n _ _ _ mid _ _ next h none rest) = (refl, follow tells f st us (i + 1) _ mid r ts turn' k' out' rest)
