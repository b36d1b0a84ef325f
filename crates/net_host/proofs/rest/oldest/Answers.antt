use Rattle.std.proofs.Common.{subst}
use Rattle.control_wire.specs.Segment.{segment_of}
use Rattle.net_host.specs.Filing.{keys_of, rest_major}
use Rattle.net_host.specs.Entries.{FindsEarliestListed}
use Rattle.net_host.specs.Resting.{RestsUntil}
use Rattle.net_host.proofs.Places.{all_filed}
use Rattle.net_host.proofs.Rested.{found_earliest}
use Rattle.net_host.proofs.rest.oldest.Goals as goal

pub returns-then-sockets-clause-oldest : goal.returns-then-sockets-clause-oldest
returns-then-sockets-clause-oldest g c =
    found_earliest c.args.sockets.now.slots.items c.args.sockets.now.index.entries c.args.ip.now (segment_of c.args.repr.now) (all_filed (λ s. keys_of s) c.args.sockets.now.complete c.args.sockets.now.slots.items c.args.sockets.now.index.entries c.args.sockets.now.free c.if-sockets.true c.requires) c.earliest_in.result
    (subst (λ xs. FindsEarliestListed (λ t x. RestsUntil c.args.ip.now (segment_of c.args.repr.now) t x) xs c.args.sockets.now.index.entries (rest_major c.args.repr.now.dst_port) c.earliest_in.result) c.deref.ensures.value c.earliest_in.ensures.found)
