use Rattle.std.proofs.Common.{◌≡◌, ◌∙◌, Some, sym, ap, map, arith}
use Rattle.std.specs.Prelude.{slice_get}
use Rattle.pair_core.specs.Holding.{stored_of}
use Rattle.pair_core.specs.Aging.{DeliversAt}
use Rattle.pair_core.specs.PairViews.{PairView, host_of}
use Rattle.pair_core.specs.declared.side.Side.TheVariants.{A, B}
use Rattle.pair_core.proofs.Deliveries.{get_map}
use Rattle.pair_core.proofs.PairGoes.{deliver_all, goes_at}
use Rattle.pair_core.proofs.PairHosts.{host_at, peer_at, deliver_stays, pair_exchanged}
use Rattle.pair_core.proofs.PairReaches.{deliver_keeps}
use Rattle.pair_core.proofs.PairReturns.{bounded, contains_at, delivers_to, delivery_takes_if, pair_delivers_if, kept_with_segments_if, unchanged_if}
use Rattle.pair_core.proofs.pair.Pair.deliver.Goals as goal

pub deliver-requires-clause-released : goal.deliver-requires-clause-released
deliver-requires-clause-released g c =
    let p : PairView _ = record { a = c.self.inside.a; b = c.self.inside.b; segments = map stored_of c.self.inside.segments.items; limit = c.self.inside.limit } in
    omega (arith, (bounded p c.self.invariant).b_released, c.in_range-3.ensures.accepted)

pub deliver-requires-clause-taken : goal.deliver-requires-clause-taken
deliver-requires-clause-taken g c =
    let p : PairView _ = record { a = c.self.inside.a; b = c.self.inside.b; segments = map stored_of c.self.inside.segments.items; limit = c.self.inside.limit } in
    omega (arith, (bounded p c.self.invariant).b_taken, c.in_range-2.ensures.accepted)

pub deliver-requires-in-B-clause-released : goal.deliver-requires-in-B-clause-released
deliver-requires-in-B-clause-released g c =
    let p : PairView _ = record { a = c.self.inside.a; b = c.self.inside.b; segments = map stored_of c.self.inside.segments.items; limit = c.self.inside.limit } in
    omega (arith, (bounded p c.self.invariant).a_released, c.in_range-2.ensures.accepted)

pub deliver-requires-in-B-clause-taken : goal.deliver-requires-in-B-clause-taken
deliver-requires-in-B-clause-taken g c =
    let p : PairView _ = record { a = c.self.inside.a; b = c.self.inside.b; segments = map stored_of c.self.inside.segments.items; limit = c.self.inside.limit } in
    omega (arith, (bounded p c.self.invariant).a_taken, c.in_range-3.ensures.accepted)

pub invariant_of-self : goal.invariant_of-self
invariant_of-self g c =
    let p : PairView _ = record { a = c.self.inside.a; b = c.self.inside.b; segments = map stored_of c.self.inside.segments.items; limit = c.self.inside.limit } in
    let t = stored_of c.index-segment.result.now in
    let at : slice_get p.segments c.args.index ≡ Some t = get_map stored_of c.self.inside.segments.items c.args.index c.index-segment.result.now (omega (arith, c.if-index-len.false, c.len.ensures, c.self.inside.segments.ok.0)) ∙ ap (λ x. Some (stored_of x)) (sym c.index-segment.ensures) in
    kept_with_segments_if (λ o. DeliversAt g.G.TsvalSource.tells (slice_get p.segments c.args.index) c.counts-counts.result.released c.counts-counts.result.taken B c.args.moment.now o (host_of B p) p.segments c.deliver.new.host (map stored_of c.deliver.new.segments.items)) B p c.deliver.new.host (map stored_of c.deliver.new.segments.items) c.deliver.result c.self.invariant c.deliver.ensures.step c.deliver.ensures.memory
    (λ o d.
    let e = delivers_to g.G.TsvalSource.tells c.args.moment.now o t B p c.args.index c.deliver.new.host (map stored_of c.deliver.new.segments.items) c.counts-counts.result.released c.counts-counts.result.taken at c.in-A.is c.counts-counts.ensures.released c.counts-counts.ensures.taken d in
    let goes = goes_at B p c.args.index t c.self.invariant at c.in-A.is in
    pair_exchanged B p c.deliver.new.host (map stored_of c.deliver.new.segments.items) c.self.invariant (deliver_stays g.G.TsvalSource.tells _ B c.args.moment.now t o (host_of B p) c.deliver.new.host p.segments (map stored_of c.deliver.new.segments.items) (host_at B p c.self.invariant) c.in_range.ensures.numbers goes e) (deliver_all g.G.TsvalSource.tells _ B p c.args.moment.now t o c.deliver.new.host (map stored_of c.deliver.new.segments.items) c.self.invariant goes e)
    (deliver_keeps B p (host_at B p c.self.invariant) c.self.invariant.network g.G.TsvalSource.tells c.args.moment.now t o c.deliver.new.host (map stored_of c.deliver.new.segments.items) c.args.moment.now.fits c.in_range.ensures.numbers (contains_at p.segments c.args.index t at) c.in-A.is c.in_range-3.ensures.socket (peer_at B p c.self.invariant) goes e))

pub returns-in-A-clause-step : goal.returns-in-A-clause-step
returns-in-A-clause-step g c =
    let p : PairView _ = record { a = c.self.inside.a; b = c.self.inside.b; segments = map stored_of c.self.inside.segments.items; limit = c.self.inside.limit } in
    let t = stored_of c.index-segment.result.now in
    let at : slice_get p.segments c.args.index ≡ Some t = get_map stored_of c.self.inside.segments.items c.args.index c.index-segment.result.now (omega (arith, c.if-index-len.false, c.len.ensures, c.self.inside.segments.ok.0)) ∙ ap (λ x. Some (stored_of x)) (sym c.index-segment.ensures) in
    pair_delivers_if g.G.TsvalSource.tells c.args.moment.now t B p c.args.self.now c.args.index c.deliver.new.host (map stored_of c.deliver.new.segments.items) c.counts-counts.result.released c.counts-counts.result.taken c.deliver.result at c.in-A.is c.self.view_is c.counts-counts.ensures.released c.counts-counts.ensures.taken c.deliver.ensures.step

pub invariant_of-self-in-B : goal.invariant_of-self-in-B
invariant_of-self-in-B g c =
    let p : PairView _ = record { a = c.self.inside.a; b = c.self.inside.b; segments = map stored_of c.self.inside.segments.items; limit = c.self.inside.limit } in
    let t = stored_of c.index-segment.result.now in
    let at : slice_get p.segments c.args.index ≡ Some t = get_map stored_of c.self.inside.segments.items c.args.index c.index-segment.result.now (omega (arith, c.if-index-len.false, c.len.ensures, c.self.inside.segments.ok.0)) ∙ ap (λ x. Some (stored_of x)) (sym c.index-segment.ensures) in
    kept_with_segments_if (λ o. DeliversAt g.G.TsvalSource.tells (slice_get p.segments c.args.index) c.counts-counts-in-B.result.released c.counts-counts-in-B.result.taken A c.args.moment.now o (host_of A p) p.segments c.deliver-in-B.new.host (map stored_of c.deliver-in-B.new.segments.items)) A p c.deliver-in-B.new.host (map stored_of c.deliver-in-B.new.segments.items) c.deliver-in-B.result c.self.invariant c.deliver-in-B.ensures.step c.deliver-in-B.ensures.memory
    (λ o d.
    let e = delivers_to g.G.TsvalSource.tells c.args.moment.now o t A p c.args.index c.deliver-in-B.new.host (map stored_of c.deliver-in-B.new.segments.items) c.counts-counts-in-B.result.released c.counts-counts-in-B.result.taken at c.in-B.is c.counts-counts-in-B.ensures.released c.counts-counts-in-B.ensures.taken d in
    let goes = goes_at A p c.args.index t c.self.invariant at c.in-B.is in
    pair_exchanged A p c.deliver-in-B.new.host (map stored_of c.deliver-in-B.new.segments.items) c.self.invariant (deliver_stays g.G.TsvalSource.tells _ A c.args.moment.now t o (host_of A p) c.deliver-in-B.new.host p.segments (map stored_of c.deliver-in-B.new.segments.items) (host_at A p c.self.invariant) c.in_range.ensures.numbers goes e) (deliver_all g.G.TsvalSource.tells _ A p c.args.moment.now t o c.deliver-in-B.new.host (map stored_of c.deliver-in-B.new.segments.items) c.self.invariant goes e)
    (deliver_keeps A p (host_at A p c.self.invariant) c.self.invariant.network g.G.TsvalSource.tells c.args.moment.now t o c.deliver-in-B.new.host (map stored_of c.deliver-in-B.new.segments.items) c.args.moment.now.fits c.in_range.ensures.numbers (contains_at p.segments c.args.index t at) c.in-B.is c.in_range-2.ensures.socket (peer_at A p c.self.invariant) goes e))

pub returns-in-B-clause-step : goal.returns-in-B-clause-step
returns-in-B-clause-step g c =
    let p : PairView _ = record { a = c.self.inside.a; b = c.self.inside.b; segments = map stored_of c.self.inside.segments.items; limit = c.self.inside.limit } in
    let t = stored_of c.index-segment.result.now in
    let at : slice_get p.segments c.args.index ≡ Some t = get_map stored_of c.self.inside.segments.items c.args.index c.index-segment.result.now (omega (arith, c.if-index-len.false, c.len.ensures, c.self.inside.segments.ok.0)) ∙ ap (λ x. Some (stored_of x)) (sym c.index-segment.ensures) in
    pair_delivers_if g.G.TsvalSource.tells c.args.moment.now t A p c.args.self.now c.args.index c.deliver-in-B.new.host (map stored_of c.deliver-in-B.new.segments.items) c.counts-counts-in-B.result.released c.counts-counts-in-B.result.taken c.deliver-in-B.result at c.in-B.is c.self.view_is c.counts-counts-in-B.ensures.released c.counts-counts-in-B.ensures.taken c.deliver-in-B.ensures.step

pub returns-in-A-clause-memory : goal.returns-in-A-clause-memory
returns-in-A-clause-memory g c =
    let p : PairView _ = record { a = c.self.inside.a; b = c.self.inside.b; segments = map stored_of c.self.inside.segments.items; limit = c.self.inside.limit } in
    unchanged_if B p c.args.self.now c.deliver.new.host (map stored_of c.deliver.new.segments.items) c.deliver.result c.self.view_is c.deliver.ensures.memory

pub returns-in-A-clause-takes_memory : goal.returns-in-A-clause-takes_memory
returns-in-A-clause-takes_memory g c =
    let p : PairView _ = record { a = c.self.inside.a; b = c.self.inside.b; segments = map stored_of c.self.inside.segments.items; limit = c.self.inside.limit } in
    let t = stored_of c.index-segment.result.now in
    let at : slice_get p.segments c.args.index ≡ Some t = get_map stored_of c.self.inside.segments.items c.args.index c.index-segment.result.now (omega (arith, c.if-index-len.false, c.len.ensures, c.self.inside.segments.ok.0)) ∙ ap (λ x. Some (stored_of x)) (sym c.index-segment.ensures) in
    delivery_takes_if t B p c.args.self.now c.args.index c.counts-counts.result.released c.counts-counts.result.taken c.deliver.result at c.in-A.is c.self.view_is c.counts-counts.ensures.released c.counts-counts.ensures.taken c.deliver.ensures.takes_memory

pub returns-in-B-clause-memory : goal.returns-in-B-clause-memory
returns-in-B-clause-memory g c =
    let p : PairView _ = record { a = c.self.inside.a; b = c.self.inside.b; segments = map stored_of c.self.inside.segments.items; limit = c.self.inside.limit } in
    unchanged_if A p c.args.self.now c.deliver-in-B.new.host (map stored_of c.deliver-in-B.new.segments.items) c.deliver-in-B.result c.self.view_is c.deliver-in-B.ensures.memory

pub returns-in-B-clause-takes_memory : goal.returns-in-B-clause-takes_memory
returns-in-B-clause-takes_memory g c =
    let p : PairView _ = record { a = c.self.inside.a; b = c.self.inside.b; segments = map stored_of c.self.inside.segments.items; limit = c.self.inside.limit } in
    let t = stored_of c.index-segment.result.now in
    let at : slice_get p.segments c.args.index ≡ Some t = get_map stored_of c.self.inside.segments.items c.args.index c.index-segment.result.now (omega (arith, c.if-index-len.false, c.len.ensures, c.self.inside.segments.ok.0)) ∙ ap (λ x. Some (stored_of x)) (sym c.index-segment.ensures) in
    delivery_takes_if t A p c.args.self.now c.args.index c.counts-counts-in-B.result.released c.counts-counts-in-B.result.taken c.deliver-in-B.result at c.in-B.is c.self.view_is c.counts-counts-in-B.ensures.released c.counts-counts-in-B.ensures.taken c.deliver-in-B.ensures.takes_memory
