use Rattle.std.proofs.Common.{◌<◌, ℕ}
use Rattle.std.specs.Prelude.{slice_get, IfSome}
use Rattle.net_host.specs.Ports.{Connects}
use Rattle.net_host.proofs.ports.connection.Given as goal

abbrev pub invariant-loop-i : goal.invariant-loop-i
invariant-loop-i g l = (k : ℕ) → k < l.i → IfSome (slice_get l.slots k) (λ x. Connects l.local l.remote x → ⊥)
