use Rattle.std.proofs.Common.{ℕ, ◌≡◌, ◌-◌, ◌+◌, ◌*◌, ◌<◌, ◌≤◌, length}
use Rattle.host_bounds.specs.Marking.{bit_of}
use Rattle.host_bounds.proofs.marks.first_one.Given as goal

abbrev pub invariant-loop-word : goal.invariant-loop-word
invariant-loop-word l = record {
  within : l.bit < 64;
  zeros : (k : ℕ) → l.start ≤ k → k < l.word * 64 + l.bit → bit_of l.words k ≡ 0;
}

abbrev pub decreases-loop-word : goal.decreases-loop-word
decreases-loop-word l = length l.words - l.word
