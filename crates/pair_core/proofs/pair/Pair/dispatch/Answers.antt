use Rattle.std.proofs.Common.{map}
use Rattle.pair_core.specs.Holding.{stored_of}
use Rattle.pair_core.specs.PairSteps.{Dispatches}
use Rattle.pair_core.specs.PairViews.{PairView, host_of}
use Rattle.pair_core.specs.declared.side.Side.TheVariants.{A, B}
use Rattle.pair_core.proofs.PairGoes.{dispatch_all}
use Rattle.pair_core.proofs.PairHosts.{host_at, dispatch_stays, pair_exchanged}
use Rattle.pair_core.proofs.PairReaches.{dispatch_keeps}
use Rattle.pair_core.proofs.PairReturns.{with_segments_if, kept_with_segments_if}
use Rattle.pair_core.proofs.pair.Pair.dispatch.Goals as goal

pub invariant_of-self : goal.invariant_of-self
invariant_of-self g c =
    let p : PairView _ = record { a = c.self.inside.a; b = c.self.inside.b; segments = map stored_of c.self.inside.segments.items; limit = c.self.inside.limit } in
    let k = c.dispatch.new.host in
    let ts = map stored_of c.dispatch.new.segments.items in
    let m = c.args.moment.now in
    kept_with_segments_if (λ o. Dispatches g.G.TsvalSource.tells A m c.args.fail o (host_of A p) p.segments k ts) A p k ts c.dispatch.result c.self.invariant c.dispatch.ensures.step c.dispatch.ensures.memory
    (λ o d. pair_exchanged A p k ts c.self.invariant (dispatch_stays g.G.TsvalSource.tells A m c.args.fail o _ k p.segments ts (host_at A p c.self.invariant) d) (dispatch_all g.G.TsvalSource.tells A p m c.args.fail o k ts c.self.invariant d) (dispatch_keeps A p (host_at A p c.self.invariant) c.self.invariant.network g.G.TsvalSource.tells m c.args.fail o k ts d))

pub returns-in-A-clause-step : goal.returns-in-A-clause-step
returns-in-A-clause-step g c =
    let p : PairView _ = record { a = c.self.inside.a; b = c.self.inside.b; segments = map stored_of c.self.inside.segments.items; limit = c.self.inside.limit } in
    with_segments_if (λ s v o. Dispatches g.G.TsvalSource.tells s c.args.moment.now c.args.fail o) A c.args.side p c.args.self.now c.dispatch.new.host (map stored_of c.dispatch.new.segments.items) c.dispatch.result c.in-A.is c.self.view_is c.dispatch.ensures.step

pub invariant_of-self-in-B : goal.invariant_of-self-in-B
invariant_of-self-in-B g c =
    let p : PairView _ = record { a = c.self.inside.a; b = c.self.inside.b; segments = map stored_of c.self.inside.segments.items; limit = c.self.inside.limit } in
    let k = c.dispatch-in-B.new.host in
    let ts = map stored_of c.dispatch-in-B.new.segments.items in
    let m = c.args.moment.now in
    kept_with_segments_if (λ o. Dispatches g.G.TsvalSource.tells B m c.args.fail o (host_of B p) p.segments k ts) B p k ts c.dispatch-in-B.result c.self.invariant c.dispatch-in-B.ensures.step c.dispatch-in-B.ensures.memory
    (λ o d. pair_exchanged B p k ts c.self.invariant (dispatch_stays g.G.TsvalSource.tells B m c.args.fail o _ k p.segments ts (host_at B p c.self.invariant) d) (dispatch_all g.G.TsvalSource.tells B p m c.args.fail o k ts c.self.invariant d) (dispatch_keeps B p (host_at B p c.self.invariant) c.self.invariant.network g.G.TsvalSource.tells m c.args.fail o k ts d))

pub returns-in-B-clause-step : goal.returns-in-B-clause-step
returns-in-B-clause-step g c =
    let p : PairView _ = record { a = c.self.inside.a; b = c.self.inside.b; segments = map stored_of c.self.inside.segments.items; limit = c.self.inside.limit } in
    with_segments_if (λ s v o. Dispatches g.G.TsvalSource.tells s c.args.moment.now c.args.fail o) B c.args.side p c.args.self.now c.dispatch-in-B.new.host (map stored_of c.dispatch-in-B.new.segments.items) c.dispatch-in-B.result c.in-B.is c.self.view_is c.dispatch-in-B.ensures.step
