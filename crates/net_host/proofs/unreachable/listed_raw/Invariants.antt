use Rattle.std.proofs.Common.{◌<◌, ◌-◌, ℕ}
use Rattle.std.specs.Prelude.{slice_get, IfSome}
use Rattle.net_host.specs.Unreachable.{TakesRaw}
use Rattle.net_host.proofs.unreachable.listed_raw.Given as goal

abbrev pub invariant-loop-i : goal.invariant-loop-i
invariant-loop-i g l = (k : ℕ) → k < l.from → IfSome (slice_get l.slots k) (λ x. TakesRaw l.ip x → ⊥)

abbrev pub decreases-loop-i : goal.decreases-loop-i
decreases-loop-i g l = l.end - l.from
