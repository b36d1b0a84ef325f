use Rattle.std.proofs.Common.{◌≡◌, ◌-◌, ◌≤◌, ◌&&◌, drop, length, nat_le}
use Rattle.std.specs.List.{list_all}
use Rattle.sock_pair.proofs.script.values.is_text.Given as goal

abbrev pub invariant-loop-at : goal.invariant-loop-at
invariant-loop-at l =
    record {
      passed : list_all (λ b. nat_le 33 b && nat_le b 126) l.word ≡ list_all (λ b. nat_le 33 b && nat_le b 126) (drop l.at l.word);
      within : l.at ≤ length l.word;
    }

abbrev pub decreases-loop-at : goal.decreases-loop-at
decreases-loop-at l = length l.word - l.at
