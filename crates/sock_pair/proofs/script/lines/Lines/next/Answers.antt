use Rattle.std.proofs.Common.{◌≡◌, [], length, true, false, sym, ◌∙◌, ap, arith, rules}
use Rattle.std.proofs.lemmas.Grind.{common_steps}
use Rattle.sock_pair.specs.ScriptText.{is_comment, numbered_from, words_of}
use Rattle.sock_pair.proofs.ScriptTextLemmas.{count-line, lines-none, numbered-line, numbered-none, numbered-skip, skipped-blank, skipped-comment}
use Rattle.sock_pair.proofs.script.lines.Lines.next.Goals as goal

pub loop-number-preserved-then-is_comment : goal.loop-number-preserved-then-is_comment
loop-number-preserved-then-is_comment c =
    let line = c.take_line-line.ensures.line in
    let number = c.take_line-line.ensures.number in
    let comment : is_comment c.take_line-line.result.now ≡ true = sym c.is_comment.ensures ∙ c.if-is_comment.true in
    record {
      lines = c.loop-number.invariant.lines ∙ numbered-skip _ _ _ _ _ line number (skipped-comment c.take_line-line.result.now comment);
      count = count-line _ _ _ _ _ line number ∙ c.loop-number.invariant.count;
      shorter = omega arith;
    }

pub loop-number-preserved : goal.loop-number-preserved
loop-number-preserved c =
    let line = c.take_line-line.ensures.line in
    let number = c.take_line-line.ensures.number in
    let plain : is_comment c.take_line-line.result.now ≡ false = sym c.is_comment.ensures ∙ c.if-is_comment.false in
    let blank : words_of c.take_line-line.result.now ≡ [] = search rules in
    record {
      lines = c.loop-number.invariant.lines ∙ numbered-skip _ _ _ _ _ line number (skipped-blank c.take_line-line.result.now plain blank);
      count = count-line _ _ _ _ _ line number ∙ c.loop-number.invariant.count;
      shorter = omega arith;
    }

pub returns-in-Some-clause-lines : goal.returns-in-Some-clause-lines
returns-in-Some-clause-lines c =
    let plain : is_comment c.take_line-line.result.now ≡ false = sym c.is_comment.ensures ∙ c.if-is_comment.false in
    c.loop-number.invariant.lines ∙ numbered-line _ _ _ _ _ _ _ c.take_line-line.ensures.line c.take_line-line.ensures.number plain c.in-Some.ensures

pub returns-clause-lines : goal.returns-clause-lines
returns-clause-lines c =
    let none : length c.loop-number.self.rest.now ≡ 0 = grind (arith, common_steps) in
    c.loop-number.invariant.lines ∙ ap (λ ls. numbered_from c.loop-number.self.number ls) (lines-none _ none) ∙ numbered-none c.loop-number.self.number

pub returns-clause-end : goal.returns-clause-end
returns-clause-end c =
    let none : length c.loop-number.self.rest.now ≡ 0 = grind (arith, common_steps) in
    omega (arith, c.loop-number.invariant.count, ap length (lines-none _ none))
