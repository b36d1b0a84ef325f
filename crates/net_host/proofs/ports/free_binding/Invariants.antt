use Rattle.std.proofs.Common.{◌<◌, ℕ}
use Rattle.net_host.specs.Ports.{Binds, port_after}
use Rattle.net_host.specs.Walks.{Nowhere}
use Rattle.net_host.proofs.ports.free_binding.Given as goal

abbrev pub invariant-loop-k : goal.invariant-loop-k
invariant-loop-k g l = (j : ℕ) → j < l.k → Nowhere (λ s. Binds (port_after l.start j) s) l.slots → ⊥
