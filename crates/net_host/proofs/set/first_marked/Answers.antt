use Rattle.std.proofs.Common.{◌≡◌, false, true, refl, arith}
use Rattle.net_host.specs.Slots.{IsFree}
use Rattle.net_host.proofs.Vacant.{begins_at, found_on, goes_past, none_on}
use Rattle.net_host.proofs.set.first_marked.Goals as goal

no_truth : false ≡ true → ⊥
no_truth e = cc

pub loop-place-init : goal.loop-place-init
loop-place-init g c = begins_at (λ s. IsFree s) c.args.slots.now c.args.free.now c.next-place.result c.next-place.ensures.before

pub returns-then-is_free_at : goal.returns-then-is_free_at
returns-then-is_free_at g c = found_on (λ s. IsFree s) c.args.slots.now c.args.free.now c.loop-place.place c.loop-place.invariant (c.if-is_free_at.ensures.0 refl)

pub loop-place-preserved : goal.loop-place-preserved
loop-place-preserved g c = goes_past (λ s. IsFree s) c.args.slots.now c.args.free.now c.loop-place.place c.loop-place.invariant c.next-place-in-loop-place.result (λ at. no_truth (c.if-is_free_at.ensures.1 at)) c.next-place-in-loop-place.ensures.before

pub returns : goal.returns
returns g c = none_on (λ s. IsFree s) c.args.slots.now c.args.free.now c.loop-place.place c.loop-place.invariant (omega arith)
