use Rattle.std.proofs.Common.{◌==◌, arith}
use Rattle.sock_pair.proofs.ScriptLanes.{found, passed}
use Rattle.sock_pair.proofs.script.words.len_before.Goals as goal

pub returns-then-before-lt-LANES-clause-value : goal.returns-then-before-lt-LANES-clause-value
returns-then-before-lt-LANES-clause-value c =
    found (λ b. b == c.args.stop) c.args.bytes.now c.loop-at.at c.lanes_before-before.result (omega arith) c.lanes_before-before.ensures c.loop-at.invariant.passed (omega arith)

pub loop-at-preserved : goal.loop-at-preserved
loop-at-preserved c =
    record {
      passed = passed (λ b. b == c.args.stop) c.args.bytes.now c.loop-at.at c.lanes_before-before.result (omega arith) c.lanes_before-before.ensures c.loop-at.invariant.passed (omega arith);
      within = omega arith;
    }
