-- The segments of a pair go between its two ends, whose ports are not 0.
use Rattle.std.proofs.Common.{ℕ, ◌<◌, sym, subst}
use Rattle.std.specs.Prelude.{slice_get}
use Rattle.std.specs.Option.{ForSome}
use Rattle.control_wire.specs.Fits.{HasPorts}
use Rattle.pair_core.specs.PairAddresses.{GoesFrom, endpoint_at}
use Rattle.pair_core.specs.PairInvariant.{IsPair, IsReachable}
use Rattle.pair_core.specs.PairViews.{PairView, StoredView}
use Rattle.pair_core.specs.Sides.{other_side}
use Rattle.pair_core.specs.declared.side.Side.{Side}
use Rattle.pair_core.specs.declared.side.Side.TheVariants.{A, B}
use Rattle.ip_wire.specs.declared.endpoint.IpEndpoint.{IpEndpoint}
use Rattle.pair_core.proofs.Addresses.{one_goes}

reachable_at : {G : Type 0} (s : Side) (p : PairView G) → IsPair p → IsReachable (endpoint_at p s)
reachable_at A p i = i.a.reachable
reachable_at B p i = i.b.reachable

ports_between : (t : StoredView) (here there : IpEndpoint) → GoesFrom t here there → IsReachable here → IsReachable there → HasPorts t.segment
ports_between t here there g h r = record { src_port = subst (λ n. 0 < n) (sym g.src_port) h.port; dst_port = subst (λ n. 0 < n) (sym g.dst_port) r.port }

pub has_ports : {G : Type 0} (p : PairView G) → IsPair p → (n : ℕ) → ForSome (slice_get p.segments n) (λ t. HasPorts t.segment)
has_ports p i n t at = ports_between t (endpoint_at p t.emitter) (endpoint_at p (other_side t.emitter)) (one_goes (endpoint_at p) p.segments n t i.segments at) (reachable_at t.emitter p i) (reachable_at (other_side t.emitter) p i)
