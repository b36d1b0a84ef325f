use Rattle.std.proofs.Common.{◌∙◌, arith, sym}
use Rattle.sock_pair.specs.ScriptWords.{is_text}
use Rattle.sock_pair.proofs.ScriptLanes.{all_fails, all_passed}
use Rattle.sock_pair.proofs.script.values.is_text.Goals as goal

pub returns-then-not-lanes_are_text : goal.returns-then-not-lanes_are_text
unfolding is_text
returns-then-not-lanes_are_text c =
    all_fails _ c.args.word.now c.loop-at.at c.loop-at.invariant.passed (sym c.lanes_are_text.ensures ∙ c.if-not-lanes_are_text.true)

pub loop-at-preserved : goal.loop-at-preserved
loop-at-preserved c =
    record {
      passed = all_passed _ c.args.word.now c.loop-at.at c.loop-at.invariant.passed (sym c.lanes_are_text.ensures ∙ c.if-not-lanes_are_text.false);
      within = omega arith;
    }
