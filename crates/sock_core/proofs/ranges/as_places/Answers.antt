use Rattle.std.proofs.Common.{arith}
use Rattle.net_base.specs.Ranges.{range}
use Rattle.sock_core.proofs.Tables.{near_at, ordered_at}
use Rattle.sock_core.proofs.ranges.as_places.Goals as goal

pub place-requires : goal.place-requires
place-requires c =
    omega (arith, near_at c.args.ranges.now c.loop-index.index (range 0 0) c.requires.near c.loop-index-test.true, ordered_at c.args.ranges.now c.loop-index.index 1 (range 0 0) c.requires.apart c.loop-index-test.true)

pub place-requires-in-loop-index : goal.place-requires-in-loop-index
place-requires-in-loop-index c = omega (arith, near_at c.args.ranges.now c.loop-index.index (range 0 0) c.requires.near c.loop-index-test.true)
