use Rattle.std.proofs.Common.{map, subst}
use Rattle.pair_core.specs.Holding.{stored_of}
use Rattle.pair_core.specs.PairPromises.{Prefix, Begins, Release}
use Rattle.pair_core.specs.PairViews.{PairView}
use Rattle.pair_core.proofs.PairPromises.{keeps_prefix, keeps_release, prefix_begins}
use Rattle.pair_core.proofs.pair.Pair.keeps_order.Goals as goal

pub returns-clause-prefix : goal.returns-clause-prefix
returns-clause-prefix g c = subst Prefix c.self.view_is (keeps_prefix (record { a = c.self.inside.a; b = c.self.inside.b; segments = map stored_of c.self.inside.segments.items; limit = c.self.inside.limit }) c.self.invariant)

pub returns-clause-release : goal.returns-clause-release
returns-clause-release g c = subst Release c.self.view_is (keeps_release (record { a = c.self.inside.a; b = c.self.inside.b; segments = map stored_of c.self.inside.segments.items; limit = c.self.inside.limit }) c.self.invariant)

pub returns-clause-begins : goal.returns-clause-begins
returns-clause-begins g c =
    let p : PairView _ = record { a = c.self.inside.a; b = c.self.inside.b; segments = map stored_of c.self.inside.segments.items; limit = c.self.inside.limit } in
    subst Begins c.self.view_is (prefix_begins p (keeps_prefix p c.self.invariant))
