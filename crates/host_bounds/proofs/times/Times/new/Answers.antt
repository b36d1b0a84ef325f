use Rattle.std.proofs.Common.{rules, ◌≡◌, ◌∙◌, length, ap, subst, sym, to_z, of_z, w64}
use Rattle.std.specs.Int.{div_ceil}
use Rattle.std.specs.List.{All}
use Rattle.host_bounds.specs.Bounding.{IsTopped, at_once, first_top}
use Rattle.host_bounds.proofs.Layers.{fresh}
use Rattle.host_bounds.proofs.times.Times.new.Goals as goal

pub invariant_of-result : goal.invariant_of-result
invariant_of-result c =
    let places : length c.in_ok-least_bounds.field-0.items ≡ c.args.count = search rules in
    let blocks : length c.in_ok-least_bounds-2.field-0.items ≡ div_ceil c.args.count 16 = search rules in
    let groups : length c.in_ok-least_bounds-3.field-0.items ≡ div_ceil (div_ceil c.args.count 16) 16 = search rules in
    let top : to_z w64 (of_z w64 c.first_top.result) ≡ first_top c.args.count = search rules in
    let one : All (λ b. b ≡ at_once) c.in_ok-least_bounds.field-0.items = search rules in
    let two : All (λ b. b ≡ at_once) c.in_ok-least_bounds-2.field-0.items = search rules in
    let three : All (λ b. b ≡ at_once) c.in_ok-least_bounds-3.field-0.items = search rules in
    subst (λ m. IsTopped m c.in_ok-least_bounds.field-0.items c.in_ok-least_bounds-2.field-0.items c.in_ok-least_bounds-3.field-0.items) (ap first_top places ∙ sym top)
    (fresh c.in_ok-least_bounds.field-0.items c.in_ok-least_bounds-2.field-0.items c.in_ok-least_bounds-3.field-0.items one two three (blocks ∙ ap (λ n. div_ceil n 16) (sym places)) (groups ∙ ap (λ n. div_ceil n 16) (sym blocks)))
