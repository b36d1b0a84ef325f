use Rattle.std.proofs.Common.{map}
use Rattle.pair_core.specs.Holding.{stored_of}
use Rattle.pair_core.specs.PairCalls.{Calls}
use Rattle.pair_core.specs.PairViews.{PairView}
use Rattle.pair_core.specs.declared.side.Side.TheVariants.{A, B}
use Rattle.pair_core.proofs.PairHosts.{host_at, call_stays, pair_with}
use Rattle.pair_core.proofs.PairReaches.{call_keeps}
use Rattle.pair_core.proofs.PairReturns.{one_side}
use Rattle.pair_core.proofs.pair.Pair.call.Goals as goal

pub invariant_of-self : goal.invariant_of-self
invariant_of-self g c =
    let p : PairView _ = record { a = c.self.inside.a; b = c.self.inside.b; segments = map stored_of c.self.inside.segments.items; limit = c.self.inside.limit } in
    pair_with A p c.call.new.self c.self.invariant (call_stays c.args.call _ c.call.new.self c.call.result (host_at A p c.self.invariant) c.call.ensures)
    (call_keeps A p (host_at A p c.self.invariant) c.self.invariant.network c.args.call c.call.result c.call.new.self c.call.ensures)

pub returns-in-A : goal.returns-in-A
returns-in-A g c =
    let p : PairView _ = record { a = c.self.inside.a; b = c.self.inside.b; segments = map stored_of c.self.inside.segments.items; limit = c.self.inside.limit } in
    one_side (λ s v h k. Calls c.args.call h c.call.result k) A c.args.side p c.args.self.now c.call.new.self c.in-A.is c.self.view_is c.call.ensures

pub invariant_of-self-in-B : goal.invariant_of-self-in-B
invariant_of-self-in-B g c =
    let p : PairView _ = record { a = c.self.inside.a; b = c.self.inside.b; segments = map stored_of c.self.inside.segments.items; limit = c.self.inside.limit } in
    pair_with B p c.call-in-B.new.self c.self.invariant (call_stays c.args.call _ c.call-in-B.new.self c.call-in-B.result (host_at B p c.self.invariant) c.call-in-B.ensures)
    (call_keeps B p (host_at B p c.self.invariant) c.self.invariant.network c.args.call c.call-in-B.result c.call-in-B.new.self c.call-in-B.ensures)

pub returns-in-B : goal.returns-in-B
returns-in-B g c =
    let p : PairView _ = record { a = c.self.inside.a; b = c.self.inside.b; segments = map stored_of c.self.inside.segments.items; limit = c.self.inside.limit } in
    one_side (λ s v h k. Calls c.args.call h c.call-in-B.result k) B c.args.side p c.args.self.now c.call-in-B.new.self c.in-B.is c.self.view_is c.call-in-B.ensures
