use Rattle.std.proofs.Common.{◌≡◌, ◌+◌, length, sym, subst, arith}
use Rattle.control_wire.specs.Segment.{segment_of}
use Rattle.net_host.specs.Resting.{RestsUntil}
use Rattle.net_host.proofs.Oldest.{SoFar, step, whole}
use Rattle.net_host.proofs.rest.walk_for_oldest.Goals as goal

pub loop-i-preserved : goal.loop-i-preserved
loop-i-preserved g c =
    subst (λ found. SoFar (λ t x. RestsUntil c.args.ip.now (segment_of c.args.repr.now) t x) c.args.slots.now (c.loop-i.i + 1) found) (sym c.earlier-found.ensures)
    (step (λ t x. RestsUntil c.args.ip.now (segment_of c.args.repr.now) t x) c.args.slots.now c.loop-i.i c.index-slots-i.result (omega arith) c.index-slots-i.is c.loop-i.found c.rests_until.result c.rests_until.ensures c.loop-i.invariant)

pub returns : goal.returns
returns g c =
    let is : c.loop-i.i ≡ length c.args.slots.now = omega arith in
    whole (λ t x. RestsUntil c.args.ip.now (segment_of c.args.repr.now) t x) c.args.slots.now c.loop-i.found (subst (λ n. SoFar (λ t x. RestsUntil c.args.ip.now (segment_of c.args.repr.now) t x) c.args.slots.now n c.loop-i.found) is c.loop-i.invariant)
