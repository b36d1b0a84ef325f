use Rattle.std.proofs.Common.{rules, ℕ, ◌≡◌, ◌≤◌, ◌<◌, ◌<ℤ◌, ◌≤ℤ◌, length, arith, subst, sym}
use Rattle.std.proofs.lemmas.Int.{ints}
use Rattle.host_bounds.specs.Bounding.{at_once, bound_at}
use Rattle.host_bounds.specs.Marking.{bit_of}
use Rattle.host_bounds.proofs.Merged.{marked_is, merged_len, none_asked}
use Rattle.host_bounds.proofs.bounds.Bounds.next.Goals as goal

pub returns-then-end-near : goal.returns-then-end-near
returns-then-end-near c =
    let many : length c.self.inside.times ≡ length c.args.self.now = subst (λ l. length c.self.inside.times ≡ length l) c.self.view_is (sym (merged_len 0 c.self.inside.marks c.self.inside.times)) in
    let within : c.args.end ≤ length c.args.self.now = c.requires in
    let past : c.args.end ≤ c.next-near.result = c.if-end-near.true in
    let unmarked : (k : ℕ) → c.args.start ≤ k → k < c.args.end → bit_of c.self.inside.marks k ≡ 0 = λ k from to. c.next-near.ensures.before (length c.self.inside.times) c.self.invariant.first_mark k from (omega (arith, to, past)) (omega (arith, to, within, many)) in
    let least : c.args.now <ℤ c.least.result = search rules in
    let after : (k : ℕ) → c.args.start ≤ k → k < c.args.end → c.args.now <ℤ bound_at c.self.inside.times k = λ k from to. (let p : c.least.result ≤ℤ bound_at c.self.inside.times k = c.least.ensures.below k (omega (arith, to, within, many)) in grind (arith, ints, p, least)) in
    subst (λ ps. (k : ℕ) → c.args.start ≤ k → k < c.args.end → c.args.now <ℤ bound_at ps k) c.self.view_is (none_asked c.self.inside.marks c.self.inside.times c.args.start c.args.end c.args.now unmarked after)

pub returns-then-now-least : goal.returns-then-now-least
returns-then-now-least c =
    let many : length c.self.inside.times ≡ length c.args.self.now = subst (λ l. length c.self.inside.times ≡ length l) c.self.view_is (sym (merged_len 0 c.self.inside.marks c.self.inside.times)) in
    let within : c.args.end ≤ length c.args.self.now = c.requires in
    let inside : c.next-near.result < c.args.end = c.if-end-near.false in
    let least : c.args.now <ℤ c.least.result = search rules in
    let after : (k : ℕ) → c.args.start ≤ k → k < c.next-near.result → c.args.now <ℤ bound_at c.self.inside.times k = λ k from to. (let p : c.least.result ≤ℤ bound_at c.self.inside.times k = c.least.ensures.below k (omega (arith, to, inside, within, many)) in grind (arith, ints, p, least)) in
    let last : c.args.end ≤ 18446744073709551615 = search rules in
    let one : bit_of c.self.inside.marks c.next-near.result ≡ 1 = c.next-near.ensures.marked (length c.self.inside.times) c.self.invariant.first_mark c.self.invariant.bounds.reach (omega (arith, inside, last)) (omega (arith, inside, within, many)) in
    let floor : at_once ≤ℤ c.args.now = search rules in
    record {
      behind = c.next-near.ensures.behind;
      within = inside;
      reached = subst (λ ps. bound_at ps c.next-near.result ≤ℤ c.args.now) c.self.view_is (subst (λ b. b ≤ℤ c.args.now) (sym (marked_is c.self.inside.marks c.self.inside.times c.next-near.result one)) floor);
      before = subst (λ ps. (k : ℕ) → c.args.start ≤ k → k < c.next-near.result → c.args.now <ℤ bound_at ps k) c.self.view_is (none_asked c.self.inside.marks c.self.inside.times c.args.start c.next-near.result c.args.now (λ k from to. c.next-near.ensures.before (length c.self.inside.times) c.self.invariant.first_mark k from to (omega (arith, to, inside, within, many))) after);
    }
