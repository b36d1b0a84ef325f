use Rattle.std.proofs.Common.{◌+◌, ◌≤◌, sym}
use Rattle.sock_core.proofs.CubeRoots.{found}
use Rattle.sock_core.proofs.cube_root.cube_root.Goals as goal

pub returns-clause-value : goal.returns-clause-value
returns-clause-value c =
    let i = c.loop-low.invariant in
    let near : c.loop-low.high ≤ c.loop-low.low + 1 = c.loop-low-test.false in
    sym (found c.args.x c.loop-low.low c.loop-low.high i.below i.above i.order i.small near)
