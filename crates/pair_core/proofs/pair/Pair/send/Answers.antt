use Rattle.std.proofs.Common.{◌∙◌, sym, map, length, false}
use Rattle.pair_core.specs.Holding.{stored_of}
use Rattle.pair_core.specs.PairCalls.{Sends}
use Rattle.pair_core.specs.PairViews.{PairView, host_of}
use Rattle.pair_core.specs.declared.side.Side.TheVariants.{A, B}
use Rattle.pair_core.proofs.PairHosts.{host_at, send_stays, pair_with}
use Rattle.pair_core.proofs.PairReaches.{send_keeps}
use Rattle.pair_core.proofs.PairReturns.{one_side_if, kept_if, over_as, sends_under, is_refused}
use Rattle.pair_core.proofs.pair.Pair.send.Goals as goal

pub returns-then-is_over_limit-clause-step : goal.returns-then-is_over_limit-clause-step
returns-then-is_over_limit-clause-step g c = is_refused c.args.side c.args.self.now c.args.take c.args.bytes.now (sym c.is_over_limit.ensures ∙ c.if-is_over_limit.true)

pub invariant_of-self : goal.invariant_of-self
invariant_of-self g c =
    let p : PairView _ = record { a = c.self.inside.a; b = c.self.inside.b; segments = map stored_of c.self.inside.segments.items; limit = c.self.inside.limit } in
    let k = c.send.new.self in
    let bs = c.args.bytes.now in
    let under = over_as A c.args.side p c.args.self.now (length bs) c.is_over_limit.result false c.in-A.is c.self.view_is c.is_over_limit.ensures c.if-is_over_limit.false in
    kept_if (λ o. Sends p.limit c.args.take bs (host_of A p) o k) A p k c.send.result c.self.invariant (sends_under p.limit c.args.take bs (host_of A p) k c.send.result under c.send.ensures.step) c.send.ensures.memory
    (λ o d. pair_with A p k c.self.invariant (send_stays _ k p.limit c.args.take bs o (host_at A p c.self.invariant) d) (send_keeps A p (host_at A p c.self.invariant) c.self.invariant.network c.args.take bs o k c.in_range.ensures.socket.transmit d))

pub returns-in-A-clause-step : goal.returns-in-A-clause-step
returns-in-A-clause-step g c =
    let p : PairView _ = record { a = c.self.inside.a; b = c.self.inside.b; segments = map stored_of c.self.inside.segments.items; limit = c.self.inside.limit } in
    let k = c.send.new.self in
    let bs = c.args.bytes.now in
    let under = over_as A c.args.side p c.args.self.now (length bs) c.is_over_limit.result false c.in-A.is c.self.view_is c.is_over_limit.ensures c.if-is_over_limit.false in
    one_side_if (λ s v o h k. Sends v.limit c.args.take bs h o k) A c.args.side p c.args.self.now k c.send.result c.in-A.is c.self.view_is (sends_under p.limit c.args.take bs (host_of A p) k c.send.result under c.send.ensures.step)

pub invariant_of-self-in-B : goal.invariant_of-self-in-B
invariant_of-self-in-B g c =
    let p : PairView _ = record { a = c.self.inside.a; b = c.self.inside.b; segments = map stored_of c.self.inside.segments.items; limit = c.self.inside.limit } in
    let k = c.send-in-B.new.self in
    let bs = c.args.bytes.now in
    let under = over_as B c.args.side p c.args.self.now (length bs) c.is_over_limit.result false c.in-B.is c.self.view_is c.is_over_limit.ensures c.if-is_over_limit.false in
    kept_if (λ o. Sends p.limit c.args.take bs (host_of B p) o k) B p k c.send-in-B.result c.self.invariant (sends_under p.limit c.args.take bs (host_of B p) k c.send-in-B.result under c.send-in-B.ensures.step) c.send-in-B.ensures.memory
    (λ o d. pair_with B p k c.self.invariant (send_stays _ k p.limit c.args.take bs o (host_at B p c.self.invariant) d) (send_keeps B p (host_at B p c.self.invariant) c.self.invariant.network c.args.take bs o k c.in_range-2.ensures.socket.transmit d))

pub returns-in-B-clause-step : goal.returns-in-B-clause-step
returns-in-B-clause-step g c =
    let p : PairView _ = record { a = c.self.inside.a; b = c.self.inside.b; segments = map stored_of c.self.inside.segments.items; limit = c.self.inside.limit } in
    let k = c.send-in-B.new.self in
    let bs = c.args.bytes.now in
    let under = over_as B c.args.side p c.args.self.now (length bs) c.is_over_limit.result false c.in-B.is c.self.view_is c.is_over_limit.ensures c.if-is_over_limit.false in
    one_side_if (λ s v o h k. Sends v.limit c.args.take bs h o k) B c.args.side p c.args.self.now k c.send-in-B.result c.in-B.is c.self.view_is (sends_under p.limit c.args.take bs (host_of B p) k c.send-in-B.result under c.send-in-B.ensures.step)
