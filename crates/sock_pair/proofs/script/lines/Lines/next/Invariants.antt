use Rattle.std.proofs.Common.{◌≡◌, ◌+◌, ◌≤◌, length}
use Rattle.sock_pair.specs.ScriptText.{lines_of, numbered_from}
use Rattle.sock_pair.proofs.script.lines.Lines.next.Given as goal

abbrev pub invariant-loop-number : goal.invariant-loop-number
invariant-loop-number l =
    record {
      lines : numbered_from l.initial.self.number (lines_of l.initial.self.rest.now) ≡ numbered_from l.self.number (lines_of l.self.rest.now);
      count : l.self.number + length (lines_of l.self.rest.now) ≡ l.initial.self.number + length (lines_of l.initial.self.rest.now);
      shorter : length l.self.rest.now ≤ length l.initial.self.rest.now;
    }

abbrev pub decreases-loop-number : goal.decreases-loop-number
decreases-loop-number l = length l.self.rest.now
