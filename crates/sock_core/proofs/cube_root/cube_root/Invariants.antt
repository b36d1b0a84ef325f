use Rattle.std.proofs.Common.{◌-◌, ◌≤◌, ◌<◌}
use Rattle.sock_core.specs.CubeRoot.{cube}
use Rattle.sock_core.proofs.cube_root.cube_root.Given as goal

abbrev pub invariant-loop-low : goal.invariant-loop-low
invariant-loop-low l = record {
  order : l.low < l.high;
  small : l.high ≤ 2097152;
  below : cube l.low ≤ l.x;
  above : l.x < cube l.high;
}

abbrev pub decreases-loop-low : goal.decreases-loop-low
decreases-loop-low l = l.high - l.low
