use Rattle.std.proofs.Common.{◌≡◌, ◌+◌, ◌≤◌, ◌++◌, length, take, drop, cond}
use Rattle.net_base.specs.Ranges.{insert_range}
use Rattle.net_base.proofs.assembler.with_range.Given as goal

abbrev pub invariant-loop-range : goal.invariant-loop-range
invariant-loop-range l =
    record {
      long : length l.all ≡ 5;
      within : l.count ≤ l.range-index + cond l.placed 1 0;
      some : cond l.placed 1 0 ≤ l.count;
      so_far : take l.count l.all ++ cond l.placed (drop l.range-index l.ranges) (insert_range l.low l.high (drop l.range-index l.ranges)) ≡ insert_range l.start l.end l.ranges;
    }
