use Rattle.std.proofs.Common.{◌<◌, ℕ}
use Rattle.std.specs.Prelude.{slice_get, IfSome}
use Rattle.net_host.specs.Ports.{Binds}
use Rattle.net_host.proofs.ports.binding.Given as goal

abbrev pub invariant-loop-i : goal.invariant-loop-i
invariant-loop-i g l = (k : ℕ) → k < l.i → IfSome (slice_get l.slots k) (λ x. Binds l.port x → ⊥)
