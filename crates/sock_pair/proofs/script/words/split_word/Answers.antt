use Rattle.std.proofs.Common.{arith, drop, refl}
use Rattle.std.proofs.lemmas.Grind.{common_steps}
use Rattle.sock_pair.proofs.ScriptTextLemmas.{words-none, words-split}
use Rattle.sock_pair.proofs.script.words.split_word.Goals as goal

pub returns-then-is_empty : goal.returns-then-is_empty
returns-then-is_empty c = words-none c.args.line.now (drop c.spaces.result c.args.line.now) c.spaces.result c.spaces.ensures.value refl (grind (arith, common_steps))

pub returns : goal.returns
returns c =
    words-split c.args.line.now _ _ c.spaces.result c.len_before-end.result c.spaces.ensures.value (grind (arith, common_steps)) (grind (arith, common_steps)) c.len_before-end.ensures.value (grind (arith, common_steps))
