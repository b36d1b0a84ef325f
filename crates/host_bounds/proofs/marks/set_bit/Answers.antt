use Rattle.std.proofs.Common.{◌≡◌, ◌∙◌, ◌/◌, get_or}
use Rattle.std.proofs.lemmas.List.{get_or_default}
use Rattle.host_bounds.proofs.Bits.{sets_bit}
use Rattle.host_bounds.proofs.marks.set_bit.Goals as goal

pub returns : goal.returns
returns c =
    let is : c.index_mut.result.now ≡ get_or c.args.words.now.items (c.args.place / 64) 0 = c.index_mut.ensures.value ∙ get_or_default c.args.words.now.items (c.args.place / 64) c.index_mut.result.now 0 c.requires in
    sets_bit c.args.words.now.items c.args.place c.index_mut.result.now c.requires is
