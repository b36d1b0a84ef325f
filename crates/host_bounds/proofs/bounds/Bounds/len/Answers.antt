use Rattle.std.proofs.Common.{◌∙◌, length, ap, sym}
use Rattle.host_bounds.proofs.Merged.{merged_len}
use Rattle.host_bounds.proofs.bounds.Bounds.len.Goals as goal

pub returns : goal.returns
returns c = c.len.ensures ∙ sym (merged_len 0 c.self.inside.marks c.self.inside.times) ∙ ap length c.self.view_is
