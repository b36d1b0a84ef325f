use Rattle.std.proofs.Common.{length, drop, ◌-◌, ◌≡◌, ◌≤◌}
use Rattle.control_wire.specs.Source.{options_after}
use Rattle.control_wire.proofs.source.options_are_well_formed.Given as goal

abbrev pub invariant-loop-at : goal.invariant-loop-at
invariant-loop-at l =
    record {
      within : l.at ≤ length l.options;
      rest : options_after 0 (drop l.at l.options) ≡ options_after 0 l.options;
    }

abbrev pub decreases-loop-at : goal.decreases-loop-at
decreases-loop-at l = length l.options - l.at
