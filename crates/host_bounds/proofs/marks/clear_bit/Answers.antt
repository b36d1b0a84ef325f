use Rattle.std.proofs.Common.{◌≡◌, ◌∙◌, ◌/◌, get_or}
use Rattle.std.proofs.lemmas.List.{get_or_default}
use Rattle.host_bounds.proofs.Bits.{clears_bit}
use Rattle.host_bounds.proofs.marks.clear_bit.Goals as goal

pub returns-clause-cleared : goal.returns-clause-cleared
returns-clause-cleared c =
    let is : c.index.result.now ≡ get_or c.args.words.now.items (c.args.place / 64) 0 = c.index.ensures ∙ get_or_default c.args.words.now.items (c.args.place / 64) c.index.result.now 0 c.requires in
    clears_bit c.args.words.now.items c.args.place c.index.result.now c.requires is
