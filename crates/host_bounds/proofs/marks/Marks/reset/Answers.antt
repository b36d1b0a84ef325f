use Rattle.std.proofs.Common.{rules, ℕ, ◌/◌, ◌<◌, ◌≤◌, length}
use Rattle.host_bounds.proofs.Bits.{full_bit, full_noted}
use Rattle.host_bounds.proofs.marks.Marks.reset.Goals as goal

pub invariant_of-self : goal.invariant_of-self
invariant_of-self c =
    let reach : (k : ℕ) → k < length c.set_all.new.words.items → k / 64 < length c.set_all-2.new.words.items = search rules in
    let few : length c.set_all.new.words.items ≤ 288230376151711744 = search rules in
    full_noted c.set_all.new.words.items c.set_all-2.new.words.items few reach c.set_all-2.ensures.ones

pub returns-clause-marked : goal.returns-clause-marked
returns-clause-marked c = λ k within. full_bit c.set_all.new.words.items k c.set_all.ensures.ones within
