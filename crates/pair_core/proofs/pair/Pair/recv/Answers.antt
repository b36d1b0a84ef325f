use Rattle.std.proofs.Common.{map}
use Rattle.pair_core.specs.Holding.{stored_of}
use Rattle.pair_core.specs.PairCalls.{Receives}
use Rattle.pair_core.specs.PairViews.{PairView, host_of}
use Rattle.pair_core.specs.declared.side.Side.TheVariants.{A, B}
use Rattle.pair_core.proofs.PairHosts.{host_at, recv_stays, pair_with}
use Rattle.pair_core.proofs.PairReaches.{recv_keeps}
use Rattle.pair_core.proofs.PairReturns.{one_side_if, kept_if}
use Rattle.pair_core.proofs.pair.Pair.recv.Goals as goal

pub invariant_of-self : goal.invariant_of-self
invariant_of-self g c =
    let p : PairView _ = record { a = c.self.inside.a; b = c.self.inside.b; segments = map stored_of c.self.inside.segments.items; limit = c.self.inside.limit } in
    let k = c.recv.new.self in
    kept_if (λ o. Receives c.args.piece c.args.size (host_of A p) o k) A p k c.recv.result c.self.invariant c.recv.ensures.step c.recv.ensures.memory
    (λ o d. pair_with A p k c.self.invariant (recv_stays _ k c.args.piece c.args.size o (host_at A p c.self.invariant) d) (recv_keeps A p (host_at A p c.self.invariant) c.self.invariant.network c.args.piece c.args.size o k d))

pub returns-in-A-clause-step : goal.returns-in-A-clause-step
returns-in-A-clause-step g c =
    let p : PairView _ = record { a = c.self.inside.a; b = c.self.inside.b; segments = map stored_of c.self.inside.segments.items; limit = c.self.inside.limit } in
    one_side_if (λ s v o h k. Receives c.args.piece c.args.size h o k) A c.args.side p c.args.self.now c.recv.new.self c.recv.result c.in-A.is c.self.view_is c.recv.ensures.step

pub invariant_of-self-in-B : goal.invariant_of-self-in-B
invariant_of-self-in-B g c =
    let p : PairView _ = record { a = c.self.inside.a; b = c.self.inside.b; segments = map stored_of c.self.inside.segments.items; limit = c.self.inside.limit } in
    let k = c.recv-in-B.new.self in
    kept_if (λ o. Receives c.args.piece c.args.size (host_of B p) o k) B p k c.recv-in-B.result c.self.invariant c.recv-in-B.ensures.step c.recv-in-B.ensures.memory
    (λ o d. pair_with B p k c.self.invariant (recv_stays _ k c.args.piece c.args.size o (host_at B p c.self.invariant) d) (recv_keeps B p (host_at B p c.self.invariant) c.self.invariant.network c.args.piece c.args.size o k d))

pub returns-in-B-clause-step : goal.returns-in-B-clause-step
returns-in-B-clause-step g c =
    let p : PairView _ = record { a = c.self.inside.a; b = c.self.inside.b; segments = map stored_of c.self.inside.segments.items; limit = c.self.inside.limit } in
    one_side_if (λ s v o h k. Receives c.args.piece c.args.size h o k) B c.args.side p c.args.self.now c.recv-in-B.new.self c.recv-in-B.result c.in-B.is c.self.view_is c.recv-in-B.ensures.step
