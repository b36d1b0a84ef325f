-- Which places need not be asked before a moment.
use Rattle.std.specs.Prelude.{ℕ, ℤ, ◌≡◌, ◌||◌, int_le, Bool, true, List, Option, Some, None, slice_get}
use Rattle.host_bounds.specs.Bounding.{at_once, bound_at}
use Rattle.net_host.specs.declared.terms.Terms.{Terms}

-- the least bound marks a place that may have changed since it was looked at
abbrev pub is_marked : ℤ → Bool
is_marked b = int_le b at_once

-- `sleeps` says whether an element need not be asked before a moment
module _ {X : Type 0} (sleeps : Terms → ℤ → X → Bool) where
  abbrev pub sleeps_at : Terms → ℤ → Option X → Bool
  sleeps_at t b None = true
  sleeps_at t b (Some s) = sleeps t b s

  -- no place that is not marked need be asked before its bound
  abbrev pub AreAsleep : Terms → List ℤ → List X → Type 0
  AreAsleep t bs ss = (k : ℕ) → (is_marked (bound_at bs k) || sleeps_at t (bound_at bs k) (slice_get ss k)) ≡ true
