-- What a set of places ends as, where one of them is lent.
use Rattle.std.specs.Prelude.{ℕ, ◌≡◌, Option, OnSome, slice_set}
use Rattle.std.specs.Borrow.{LendsSo, MutBor, Fml, RattleType}
use Rattle.net_host.specs.declared.filed.Filed.{Filed}
use Rattle.net_host.specs.contracts.filed.Filed.{the_row}
use Rattle.net_host.specs.declared.filed.Keyed.{Ghosts}

-- the place is what was left behind the reference, and each other place is as it was; where none was lent all are
abbrev pub LendsPlace : (T : RattleType) (keyed : Ghosts T.Denot) → MutBor (Filed T.Denot keyed) → ℕ
    → Option (MutBor T.Denot) → Fml
LendsPlace T keyed e i r = LendsSo (the_row T keyed) T e r
    (λ n w. OnSome r (n.slots.items ≡ slice_set e.now.slots.items i w)) (λ n. n.slots.items ≡ e.now.slots.items)
