use Rattle.std.proofs.Common.{◌<◌, ℕ}
use Rattle.net_host.specs.Ports.{Connects, at_port, port_after}
use Rattle.net_host.specs.Walks.{Nowhere}
use Rattle.net_host.proofs.ports.free_port.Given as goal

abbrev pub invariant-loop-k : goal.invariant-loop-k
invariant-loop-k g l = (j : ℕ) → j < l.k → Nowhere (λ s. Connects (at_port l.addr (port_after l.start j)) l.remote s) l.slots → ⊥
