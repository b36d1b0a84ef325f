use Rattle.std.proofs.Common.{◌≤◌, length, arith}
use Rattle.host_index.specs.Entries.{rank}
use Rattle.host_index.proofs.Numbers.{splits}
use Rattle.host_index.proofs.index.lower_between.Goals as goal

pub returns : goal.returns
returns c =
    let order : c.loop-low.low ≤ c.loop-low.high = c.loop-low.invariant.order in
    let within : c.loop-low.high ≤ length c.args.order.now = c.loop-low.invariant.within in
    let met : c.loop-low.high ≤ c.loop-low.low = c.loop-low-test.false in
    splits c.args.columns.now c.args.order.now (rank c.args.key) c.loop-low.low (omega (arith, order, within)) c.loop-low.invariant.below (λ k h there. c.loop-low.invariant.above k (omega (arith, h, met)) there)
