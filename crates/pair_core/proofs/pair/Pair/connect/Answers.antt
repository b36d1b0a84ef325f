use Rattle.std.proofs.Common.{map, subst, sym}
use Rattle.ip_wire.specs.declared.endpoint.IpEndpoint.{IpEndpoint}
use Rattle.ip_wire.specs.Address.{SameVersion}
use Rattle.pair_core.specs.Holding.{stored_of}
use Rattle.pair_core.specs.PairInvariant.{IsReachable}
use Rattle.pair_core.specs.PairCalls.{connecting, OpensAs}
use Rattle.pair_core.specs.PairViews.{PairView, host_of}
use Rattle.pair_core.specs.Sides.{other_side}
use Rattle.pair_core.specs.declared.side.Side.TheVariants.{A, B}
use Rattle.pair_core.proofs.PairHosts.{StaysHost, host_at, version_at, connect_stays, pair_with}
use Rattle.pair_core.proofs.PairReaches.{connect_keeps}
use Rattle.pair_core.proofs.PairReturns.{one_side}
use Rattle.pair_core.proofs.pair.Pair.connect.Goals as goal

pub invariant_of-self : goal.invariant_of-self
invariant_of-self g c =
    let p : PairView _ = record { a = c.self.inside.a; b = c.self.inside.b; segments = map stored_of c.self.inside.segments.items; limit = c.self.inside.limit } in
    pair_with A p c.connect.new.self c.self.invariant (subst (λ (e : IpEndpoint). StaysHost e (host_of A p) c.connect.new.self) c.endpoint.ensures (connect_stays _ c.connect.new.self c.args.moment.now c.endpoint.result c.connect.result (host_at A p c.self.invariant) (subst IsReachable (sym c.endpoint.ensures) c.self.invariant.b.reachable) (subst (λ (e : IpEndpoint). SameVersion p.a.endpoint.addr e.addr) (sym c.endpoint.ensures) (version_at A p c.self.invariant)) c.connect.ensures))
    (connect_keeps A p (host_at A p c.self.invariant) c.self.invariant.network c.args.moment.now c.endpoint.result c.connect.result c.connect.new.self c.args.moment.now.fits c.connect.ensures)

pub returns-in-A : goal.returns-in-A
returns-in-A g c =
    let p : PairView _ = record { a = c.self.inside.a; b = c.self.inside.b; segments = map stored_of c.self.inside.segments.items; limit = c.self.inside.limit } in
    one_side (λ s v h k. OpensAs h.opening h (connecting h c.args.moment.now (host_of (other_side s) v).endpoint) c.connect.result k) A c.args.side p c.args.self.now c.connect.new.self c.in-A.is c.self.view_is
    (subst (λ (e : IpEndpoint). OpensAs (host_of A p).opening (host_of A p) (connecting (host_of A p) c.args.moment.now e) c.connect.result c.connect.new.self) c.endpoint.ensures c.connect.ensures)

pub invariant_of-self-in-B : goal.invariant_of-self-in-B
invariant_of-self-in-B g c =
    let p : PairView _ = record { a = c.self.inside.a; b = c.self.inside.b; segments = map stored_of c.self.inside.segments.items; limit = c.self.inside.limit } in
    pair_with B p c.connect-in-B.new.self c.self.invariant (subst (λ (e : IpEndpoint). StaysHost e (host_of B p) c.connect-in-B.new.self) c.endpoint-in-B.ensures (connect_stays _ c.connect-in-B.new.self c.args.moment.now c.endpoint-in-B.result c.connect-in-B.result (host_at B p c.self.invariant) (subst IsReachable (sym c.endpoint-in-B.ensures) c.self.invariant.a.reachable) (subst (λ (e : IpEndpoint). SameVersion p.b.endpoint.addr e.addr) (sym c.endpoint-in-B.ensures) (version_at B p c.self.invariant)) c.connect-in-B.ensures))
    (connect_keeps B p (host_at B p c.self.invariant) c.self.invariant.network c.args.moment.now c.endpoint-in-B.result c.connect-in-B.result c.connect-in-B.new.self c.args.moment.now.fits c.connect-in-B.ensures)

pub returns-in-B : goal.returns-in-B
returns-in-B g c =
    let p : PairView _ = record { a = c.self.inside.a; b = c.self.inside.b; segments = map stored_of c.self.inside.segments.items; limit = c.self.inside.limit } in
    one_side (λ s v h k. OpensAs h.opening h (connecting h c.args.moment.now (host_of (other_side s) v).endpoint) c.connect-in-B.result k) B c.args.side p c.args.self.now c.connect-in-B.new.self c.in-B.is c.self.view_is
    (subst (λ (e : IpEndpoint). OpensAs (host_of B p).opening (host_of B p) (connecting (host_of B p) c.args.moment.now e) c.connect-in-B.result c.connect-in-B.new.self) c.endpoint-in-B.ensures c.connect-in-B.ensures)
