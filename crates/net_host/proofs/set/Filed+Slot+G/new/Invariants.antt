use Rattle.std.proofs.Common.{◌≡◌, length}
use Rattle.std.specs.List.{All}
use Rattle.net_host.specs.Slots.{IsFirstFree}
use Rattle.net_host.proofs.set.Filed+Slot+G.new.Given as goal

abbrev pub invariant-loop : goal.invariant-loop
invariant-loop g l = record { count : length l.slots.items ≡ l.counter; free : All IsFirstFree l.slots.items }
