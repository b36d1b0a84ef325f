use Rattle.std.proofs.Common.{◌≡◌, ◌<◌, ◌-◌, ℕ, length}
use Rattle.std.specs.Prelude.{slice_get, IfSome}
use Rattle.host_bounds.specs.Marking.{bit_of}
use Rattle.net_host.specs.Slots.{IsFree}
use Rattle.net_host.proofs.set.first_marked.Given as goal

abbrev pub invariant-loop-place : goal.invariant-loop-place
invariant-loop-place g l = (k : ℕ) → k < l.place → bit_of l.free k ≡ 1 → IfSome (slice_get l.slots k) (λ x. IsFree x → ⊥)

abbrev pub decreases-loop-place : goal.decreases-loop-place
decreases-loop-place g l = length l.slots - l.place
