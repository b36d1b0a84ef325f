use Rattle.std.proofs.Common.{◌≡◌, length, take}
use Rattle.sock_core.specs.HeldRanges.{offsets}
use Rattle.sock_core.proofs.ranges.as_places.Given as goal

abbrev pub invariant-loop-index : goal.invariant-loop-index
invariant-loop-index l = record { long : length l.all ≡ 4; so_far : offsets l.front (take l.index l.all) ≡ take l.index l.ranges }
