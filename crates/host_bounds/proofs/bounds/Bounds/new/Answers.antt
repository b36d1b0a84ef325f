use Rattle.std.proofs.Common.{rules, ◌≡◌, ◌∙◌, ◌/◌, ◌<◌, ℕ, false, length, subst, sym}
use Rattle.std.specs.List.{All}
use Rattle.host_bounds.specs.Bounding.{at_once}
use Rattle.host_bounds.specs.Marking.{AllMarked, IsFirstMark}
use Rattle.host_bounds.proofs.Merged.{all_at_once, first_of_any, floor_of_least, merged_len}
use Rattle.host_bounds.proofs.bounds.Bounds.new.Goals as goal

pub invariant_of-result : goal.invariant_of-result
invariant_of-result c =
    let reach : (k : ℕ) → k < length c.in_ok-new-2.field-0 → k / 64 < length c.in_ok-new.field-0 = search rules in
    let all : AllMarked c.in_ok-new.field-0 = c.in_ok-new.ensures.marked in
    let least : All (λ m. m ≡ at_once) c.in_ok-new-2.field-0 = search rules in
    let place : c.of_any.result.place ≡ 0 = search rules in
    let alone : c.of_any.result.alone ≡ false = search rules in
    record {
      bounds = record { reach = reach; floor = floor_of_least c.in_ok-new-2.field-0 least };
      first_mark = subst (λ p. IsFirstMark c.in_ok-new.field-0 (length c.in_ok-new-2.field-0) p c.of_any.result.alone) (sym place) (subst (λ a. IsFirstMark c.in_ok-new.field-0 (length c.in_ok-new-2.field-0) 0 a) (sym alone) (first_of_any c.in_ok-new.field-0 (length c.in_ok-new-2.field-0) all reach));
    }

pub returns-clause-len : goal.returns-clause-len
returns-clause-len c =
    let many : length c.in_ok-new-2.field-0 ≡ c.args.count = search rules in
    merged_len 0 c.in_ok-new.field-0 c.in_ok-new-2.field-0 ∙ many

pub returns-clause-least : goal.returns-clause-least
returns-clause-least c =
    let reach : (k : ℕ) → k < length c.in_ok-new-2.field-0 → k / 64 < length c.in_ok-new.field-0 = search rules in
    all_at_once c.in_ok-new.field-0 c.in_ok-new-2.field-0 c.in_ok-new.ensures.marked reach
