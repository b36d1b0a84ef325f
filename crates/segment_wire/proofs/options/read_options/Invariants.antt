use Rattle.std.proofs.Common.{length, drop, ◌-◌, ◌≡◌, ◌≤◌}
use Rattle.segment_wire.specs.Options.{no_options, options_read}
use Rattle.segment_wire.proofs.options.read_options.Given as goal

abbrev pub invariant-loop-at : goal.invariant-loop-at
invariant-loop-at l =
    record {
      within : l.at ≤ length l.options;
      rest : options_read 0 l.found (drop l.at l.options) ≡ options_read 0 no_options l.options;
    }

abbrev pub decreases-loop-at : goal.decreases-loop-at
decreases-loop-at l = length l.options - l.at
