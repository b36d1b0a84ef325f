use Rattle.std.proofs.Common.{rules, ◌≡◌, ◌≤◌, ◌<◌, ℕ, length, to_z, of_z, w64, arith, subst, sym}
use Rattle.host_bounds.specs.Bounding.{IsBelowAll, IsGreatest, at_once}
use Rattle.host_bounds.specs.Marking.{bit_of}
use Rattle.host_bounds.proofs.Merged.{below_times, floor_of_all, greatest_times, merged_len}
use Rattle.host_bounds.proofs.bounds.Bounds.least.Goals as goal

pub returns-then-self-len-clause-below : goal.returns-then-self-len-clause-below
returns-then-self-len-clause-below c = subst (IsBelowAll at_once) c.self.view_is (floor_of_all c.self.inside.marks c.self.inside.times c.self.invariant.bounds)

pub returns-clause-below : goal.returns-clause-below
returns-clause-below c =
    let is : c.least.result ≡ to_z w64 (of_z w64 c.least.result) = search rules in
    let last : length c.args.self.now ≤ c.self.inside.first.place = search rules in
    let unmarked : (k : ℕ) → k < length c.self.inside.times → bit_of c.self.inside.marks k ≡ 0 = λ k h. (let within : k < length c.args.self.now = subst (λ l. k < length l) c.self.view_is (subst (λ n. k < n) (sym (merged_len 0 c.self.inside.marks c.self.inside.times)) h) in c.self.invariant.first_mark.before k (omega (arith, within, last)) h) in
    subst (λ m. IsBelowAll m c.args.self.now) is (subst (IsBelowAll c.least.result) c.self.view_is (below_times c.self.inside.marks c.self.inside.times c.least.result unmarked c.least.ensures.below))

pub returns-clause-greatest : goal.returns-clause-greatest
returns-clause-greatest c =
    let is : c.least.result ≡ to_z w64 (of_z w64 c.least.result) = search rules in
    let last : length c.args.self.now ≤ c.self.inside.first.place = search rules in
    let unmarked : (k : ℕ) → k < length c.self.inside.times → bit_of c.self.inside.marks k ≡ 0 = λ k h. (let within : k < length c.args.self.now = subst (λ l. k < length l) c.self.view_is (subst (λ n. k < n) (sym (merged_len 0 c.self.inside.marks c.self.inside.times)) h) in c.self.invariant.first_mark.before k (omega (arith, within, last)) h) in
    λ later. subst (λ m. IsGreatest m c.args.self.now) is (subst (IsGreatest c.least.result) c.self.view_is (greatest_times c.self.inside.marks c.self.inside.times c.least.result unmarked c.least.ensures.greatest))
