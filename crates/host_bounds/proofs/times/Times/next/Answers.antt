use Rattle.std.proofs.Common.{rules, ℕ, ◌≤◌, ◌<◌, ◌<ℤ◌, length, to_z, of_z, w64}
use Rattle.host_bounds.specs.Bounding.{bound_at}
use Rattle.host_bounds.proofs.Layers.{in_block_or_before}
use Rattle.host_bounds.proofs.times.Times.next.Goals as goal

pub returns : goal.returns
returns c =
    let before : (k : ℕ) → c.args.start ≤ k → k < c.loop-place.place → k < length c.args.self.now → c.args.now <ℤ bound_at c.args.self.now k = search rules in
    let past : c.args.end ≤ c.loop-place.place = search rules in
    let within : c.args.end ≤ length c.args.self.now = search rules in
    λ k from to. before k from (search rules) (search rules)

pub loop-place-preserved-then-next-place : goal.loop-place-preserved-then-next-place
loop-place-preserved-then-next-place c =
    let none : (k : ℕ) → c.loop-place.place ≤ k → k < c.min-stop.result → c.args.now <ℤ bound_at c.args.self.now k = search rules in
    let behind : c.args.start ≤ c.min-stop.result = search rules in
    record { behind = behind; before = λ k from to inside. in_block_or_before c.args.self.now c.args.start c.loop-place.place c.min-stop.result (to_z w64 (of_z w64 c.args.now)) (search rules) (search rules) k from to inside }
