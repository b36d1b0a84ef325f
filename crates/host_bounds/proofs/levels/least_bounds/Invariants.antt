use Rattle.std.proofs.Common.{◌≡◌, length}
use Rattle.std.specs.List.{All}
use Rattle.host_bounds.specs.Bounding.{at_once}
use Rattle.host_bounds.proofs.levels.least_bounds.Given as goal

abbrev pub invariant-loop : goal.invariant-loop
invariant-loop l = record { count : length l.bounds.items ≡ l.counter; least : All (λ b. b ≡ at_once) l.bounds.items }
