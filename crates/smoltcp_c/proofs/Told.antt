-- What a packet carries, said of equal packets and answers.
use Rattle.std.proofs.Common.{◌≡◌, Bool, false, Option, Some, None, subst}
use Rattle.std.specs.Prelude.{IsTrue, ◌↔◌}
use Rattle.smoltcp_c.specs.Heard.{AcceptsIf}

module _ {V P : Type 0} (Accepts : V → P → Type 0) (v : V) (found : Option P) where
  -- nothing is no packet for a socket
  pub none_for : None ≡ found → IsTrue false ↔ AcceptsIf Accepts v found
  none_for e = subst (λ o. IsTrue false ↔ AcceptsIf Accepts v o) e ((λ t. absurd (cc t)), (λ p. absurd p))

  pub some_for : (p : P) (b : Bool) → Some p ≡ found → (IsTrue b ↔ Accepts v p) → IsTrue b ↔ AcceptsIf Accepts v found
  some_for p b e h = subst (λ o. IsTrue b ↔ AcceptsIf Accepts v o) e h
