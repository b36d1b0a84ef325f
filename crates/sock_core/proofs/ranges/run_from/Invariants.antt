use Rattle.std.proofs.Common.{◌≡◌, drop}
use Rattle.net_base.specs.Ranges.{insert_range}
use Rattle.sock_core.specs.HeldRanges.{offsets}
use Rattle.sock_core.proofs.ranges.run_from.Given as goal

abbrev pub invariant-loop-index : goal.invariant-loop-index
invariant-loop-index l = insert_range 0 l.len (offsets l.front l.held) ≡ insert_range 0 l.run (offsets l.front (drop l.index l.held))
