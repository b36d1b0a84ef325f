-- Memory that holds a value, or room for one, or values side by side.
use Rattle.std.specs.Prelude.{ℕ, List, Bool, true, false, Option, Some, None}
use Rattle.std.specs.Borrow.{full_share}
use Rattle.std.specs.Ptr.{Ptr, lies_at, uninit_at}
use base.Fml.{Fml, fex, ftrue}
use denote.Array.{Array}
use denote.RattleType.{RattleType}

-- the value lies at p, or there is room for one
abbrev pub held_at : (R : RattleType) → Ptr → Option R.Denot → Fml
held_at R p None = uninit_at R p
held_at R p (Some x) = lies_at R full_share p x

-- n values lie side by side from p on
abbrev pub items_at : RattleType → Ptr → ℕ → Fml
items_at R p n = fex (List R.Denot) (λ xs. lies_at (Array R n) full_share p xs)

-- so, where they were given back
abbrev pub items_if : RattleType → Ptr → ℕ → Bool → Fml
items_if R p n true = items_at R p n
items_if R p n false = ftrue
