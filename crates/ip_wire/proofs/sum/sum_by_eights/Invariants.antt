use Rattle.std.proofs.Common.{length, drop, ◌+◌, ◌-◌, ◌*◌, ◌%◌, ◌≡◌, ◌≤◌, ◌<◌, ◌^◌}
use Rattle.ip_wire.specs.Sum.{sum_after, swapped_word}
use Rattle.ip_wire.proofs.sum.sum_by_eights.Given as goal

abbrev pub invariant-loop-at : goal.invariant-loop-at
invariant-loop-at l =
    record {
      within : l.at ≤ length l.bytes;
      whole : l.at % 128 ≡ 0;
      small : l.total < 2 ^ 64 * l.at + 2 ^ 36;
      rest : sum_after (swapped_word l.fn.start l.total) (drop l.at l.bytes) ≡ sum_after (swapped_word l.fn.start l.fn.swapped) l.bytes;
    }

abbrev pub decreases-loop-at : goal.decreases-loop-at
decreases-loop-at l = length l.bytes - l.at

abbrev pub invariant-loop-at-2 : goal.invariant-loop-at-2
invariant-loop-at-2 l =
    record {
      within : l.at ≤ length l.bytes;
      whole : l.at % 32 ≡ 0;
      small : l.total < 2 ^ 64 * l.at + 2 ^ 36;
      rest : sum_after (swapped_word l.fn.start l.total) (drop l.at l.bytes) ≡ sum_after (swapped_word l.fn.start l.fn.swapped) l.bytes;
    }

abbrev pub decreases-loop-at-2 : goal.decreases-loop-at-2
decreases-loop-at-2 l = length l.bytes - l.at

abbrev pub invariant-loop-at-3 : goal.invariant-loop-at-3
invariant-loop-at-3 l =
    record {
      within : l.at ≤ length l.bytes;
      whole : l.at % 8 ≡ 0;
      small : l.total < 2 ^ 64 * l.at + 2 ^ 36;
      rest : sum_after (swapped_word l.fn.start l.total) (drop l.at l.bytes) ≡ sum_after (swapped_word l.fn.start l.fn.swapped) l.bytes;
    }

abbrev pub decreases-loop-at-3 : goal.decreases-loop-at-3
decreases-loop-at-3 l = length l.bytes - l.at
