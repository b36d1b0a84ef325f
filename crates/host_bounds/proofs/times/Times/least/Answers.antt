use Rattle.std.proofs.Common.{rules, ℕ, ◌≡◌, ◌<◌, length, sym, subst, to_z, of_z, w64}
use Rattle.std.specs.Prelude.{◌≤ℤ◌}
use Rattle.host_bounds.specs.Bounding.{IsGreatest, bound_at}
use Rattle.host_bounds.proofs.Layers.{below_all, greatest_of_all}
use Rattle.host_bounds.proofs.times.Times.least.Goals as goal

pub returns-clause-below : goal.returns-clause-below
returns-clause-below c =
    let is : to_z w64 (of_z w64 c.self.inside.top) ≡ c.self.inside.top = search rules in
    subst (λ m. (k : ℕ) → k < length c.args.self.now → m ≤ℤ bound_at c.args.self.now k) (sym is) (subst (λ ps. (k : ℕ) → k < length ps → c.self.inside.top ≤ℤ bound_at ps k) c.self.view_is (below_all c.self.inside.places.items c.self.inside.blocks.items c.self.inside.groups.items c.self.inside.top c.self.invariant.layers c.self.invariant.below))

pub returns-clause-greatest : goal.returns-clause-greatest
returns-clause-greatest c =
    let is : to_z w64 (of_z w64 c.self.inside.top) ≡ c.self.inside.top = search rules in
    subst (λ m. IsGreatest m c.args.self.now) (sym is) (subst (IsGreatest c.self.inside.top) c.self.view_is (greatest_of_all c.self.inside.places.items c.self.inside.blocks.items c.self.inside.groups.items c.self.inside.top c.self.invariant.layers c.self.invariant.greatest))
