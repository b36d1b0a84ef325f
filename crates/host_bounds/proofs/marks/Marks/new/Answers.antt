use Rattle.std.proofs.Common.{rules, ℕ, ◌/◌, ◌<◌, ◌≤◌, length}
use Rattle.host_bounds.proofs.Bits.{full_bit, full_noted}
use Rattle.host_bounds.proofs.marks.Marks.new.Goals as goal

pub invariant_of-result : goal.invariant_of-result
invariant_of-result c =
    let reach : (k : ℕ) → k < length c.in_ok-all_ones.field-0.items → k / 64 < length c.in_ok-all_ones-2.field-0.items = search rules in
    let few : length c.in_ok-all_ones.field-0.items ≤ 288230376151711744 = search rules in
    full_noted c.in_ok-all_ones.field-0.items c.in_ok-all_ones-2.field-0.items few reach c.in_ok-all_ones-2.ensures.ones

pub returns-clause-marked : goal.returns-clause-marked
returns-clause-marked c = λ k within. full_bit c.in_ok-all_ones.field-0.items k c.in_ok-all_ones.ensures.ones within
