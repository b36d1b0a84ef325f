use Rattle.std.proofs.Common.{◌≡◌, ◌++◌, length, take, drop}
use Rattle.net_base.specs.Ranges.{lowered}
use Rattle.net_base.proofs.assembler.lowered.Given as goal

abbrev pub invariant-loop-range : goal.invariant-loop-range
invariant-loop-range l =
    record {
      long : length l.all ≡ 4;
      count : l.count ≡ l.range-index;
      so_far : take l.count l.all ++ lowered l.by (drop l.count l.ranges) ≡ lowered l.by l.ranges;
    }
