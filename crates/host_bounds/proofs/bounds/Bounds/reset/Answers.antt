use Rattle.std.proofs.Common.{rules, ◌∙◌, ◌/◌, ◌<◌, ℕ, length, ap, sym}
use Rattle.host_bounds.proofs.Merged.{all_at_once, merged_len}
use Rattle.host_bounds.proofs.bounds.Bounds.reset.Goals as goal

pub returns-clause-len : goal.returns-clause-len
returns-clause-len c = merged_len 0 c.reset.new.self c.self.inside.times ∙ sym (merged_len 0 c.self.inside.marks c.self.inside.times) ∙ ap length c.self.view_is

pub returns-clause-least : goal.returns-clause-least
returns-clause-least c =
    let reach : (k : ℕ) → k < length c.self.inside.times → k / 64 < length c.reset.new.self = search rules in
    all_at_once c.reset.new.self c.self.inside.times c.reset.ensures.marked reach
