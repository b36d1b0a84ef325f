-- What an interface ends as, where its context is lent.
use Rattle.std.specs.Borrow.{Lends, MutBor, Fml, RattleType}
use Rattle.net_host.specs.declared.inner.InterfaceInner.{InterfaceInner}
use Rattle.net_host.specs.declared.interface.Interface.{Interface}
use Rattle.net_host.specs.contracts.inner.InterfaceInner.{the_row as inner_row}
use Rattle.net_host.specs.contracts.interface.Interface.{the_row}

-- the context is what was left behind the reference, and all else is as it was
abbrev pub LendsContext : (W : RattleType) → MutBor (Interface W.Denot) → MutBor (InterfaceInner W.Denot) → Fml
LendsContext W e r = Lends (the_row W) (inner_row W) e r (λ w. record e.now { inner = w })
