use Rattle.std.proofs.Common.{rules, ℕ, ◌≡◌, ◌≤◌, ◌<◌, length, arith, subst, sym}
use Rattle.std.specs.Prelude.{◌<ℤ◌}
use Rattle.host_bounds.specs.Bounding.{bound_at}
use Rattle.host_bounds.specs.Marking.{bit_of}
use Rattle.host_bounds.proofs.Merged.{merged_len, none_asked}
use Rattle.host_bounds.proofs.bounds.Bounds.first.Goals as goal

pub next-requires-2 : goal.next-requires-2
next-requires-2 c =
    let many : length c.self.inside.times ≡ length c.args.self.now = subst (λ l. length c.self.inside.times ≡ length l) c.self.view_is (sym (merged_len 0 c.self.inside.marks c.self.inside.times)) in
    let within : c.min-near.result ≤ length c.args.self.now = search rules in
    omega (arith, within, many)

pub returns-in-Some-clause-before : goal.returns-in-Some-clause-before
returns-in-Some-clause-before c =
    let many : length c.self.inside.times ≡ length c.args.self.now = subst (λ l. length c.self.inside.times ≡ length l) c.self.view_is (sym (merged_len 0 c.self.inside.marks c.self.inside.times)) in
    let room : c.min-near.result ≤ length c.args.self.now = search rules in
    let inside : c.in-Some.place < c.min-near.result = search rules in
    let near : c.in-Some.place ≤ c.next.result = search rules in
    let unmarked : (k : ℕ) → c.args.start ≤ k → k < c.in-Some.place → bit_of c.self.inside.marks k ≡ 0 = λ k from to. c.next.ensures.before (length c.self.inside.times) c.self.invariant.first_mark k from (omega (arith, to, near)) (omega (arith, to, inside, room, many)) in
    let after : (k : ℕ) → c.args.start ≤ k → k < c.in-Some.place → c.args.now <ℤ bound_at c.self.inside.times k = search rules in
    subst (λ ps. (k : ℕ) → c.args.start ≤ k → k < c.in-Some.place → c.args.now <ℤ bound_at ps k) c.self.view_is (none_asked c.self.inside.marks c.self.inside.times c.args.start c.in-Some.place c.args.now unmarked after)

pub returns-in-None-clause-before : goal.returns-in-None-clause-before
returns-in-None-clause-before c =
    let many : length c.self.inside.times ≡ length c.args.self.now = subst (λ l. length c.self.inside.times ≡ length l) c.self.view_is (sym (merged_len 0 c.self.inside.marks c.self.inside.times)) in
    let room : c.min-near.result ≤ length c.args.self.now = search rules in
    let near : c.min-near.result ≤ c.next.result = search rules in
    let unmarked : (k : ℕ) → c.args.start ≤ k → k < c.min-near.result → bit_of c.self.inside.marks k ≡ 0 = λ k from to. c.next.ensures.before (length c.self.inside.times) c.self.invariant.first_mark k from (omega (arith, to, near)) (omega (arith, to, room, many)) in
    let after : (k : ℕ) → c.args.start ≤ k → k < c.min-near.result → c.args.now <ℤ bound_at c.self.inside.times k = search rules in
    subst (λ ps. (k : ℕ) → c.args.start ≤ k → k < c.min-near.result → c.args.now <ℤ bound_at ps k) c.self.view_is (none_asked c.self.inside.marks c.self.inside.times c.args.start c.min-near.result c.args.now unmarked after)
