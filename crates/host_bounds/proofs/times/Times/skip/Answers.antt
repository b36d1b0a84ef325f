use Rattle.std.proofs.Common.{rules, ℕ, ◌≤◌, ◌<◌, ◌<ℤ◌, length, subst}
use Rattle.host_bounds.specs.Bounding.{bound_at}
use Rattle.host_bounds.proofs.times.Times.skip.Goals as goal

pub returns-then-now-index-2-clause-before : goal.returns-then-now-index-2-clause-before
returns-then-now-index-2-clause-before c =
    let before : (k : ℕ) → c.args.place ≤ k → k < c.next_block.result → k < length c.self.inside.places.items → c.args.now <ℤ bound_at c.self.inside.places.items k = search rules in
    subst (λ ps. (k : ℕ) → c.args.place ≤ k → k < c.next_block.result → k < length ps → c.args.now <ℤ bound_at ps k) c.self.view_is before
