use Rattle.std.proofs.Common.{ℕ, ◌≡◌, ◌-◌, ◌+◌, ◌*◌, ◌/◌, ◌<◌, ◌≤◌, length}
use Rattle.host_bounds.specs.Marking.{bit_of}
use Rattle.host_bounds.proofs.marks.next_behind.Given as goal

abbrev pub invariant-loop-word : goal.invariant-loop-word
invariant-loop-word l = record {
  behind : l.start / 64 + 1 ≤ l.word;
  zeros : (k : ℕ) → l.start ≤ k → k < l.word * 64 → bit_of l.marks k ≡ 0;
}

abbrev pub decreases-loop-word : goal.decreases-loop-word
decreases-loop-word l = length l.marks - l.word
