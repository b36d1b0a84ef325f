use Rattle.std.proofs.Common.{◌≡◌, ◌+◌, arith, drop}
use Rattle.std.proofs.lemmas.Grind.{common_steps}
use Rattle.sock_pair.proofs.ScriptTextLemmas.{lines-split}
use Rattle.sock_pair.proofs.script.lines.Lines.take_line.Goals as goal
use Rattle.sock_pair.proofs.script.lines.Lines.take_line.Goals.{then-end-self, else-end-self}

pub returns-clause-line : goal.returns-clause-line
returns-clause-line c =
    let after : c.if-end-self.self.now ≡ drop (c.len_before-end.result + 1) c.args.self.now.rest.now =
    elim c.if-end-self.branch [ then-end-self w ↦ grind (arith, common_steps) | else-end-self w ↦ grind (arith, common_steps) ] in
    lines-split c.args.self.now.rest.now c.if-end-self.self.now c.len_before-end.result c.requires c.len_before-end.ensures.value after
