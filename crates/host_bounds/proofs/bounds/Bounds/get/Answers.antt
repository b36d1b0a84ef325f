use Rattle.std.proofs.Common.{rules, ◌≡◌, ◌∙◌, false, nat_eq, to_z, of_z, w64, ap, subst, sym}
use Rattle.host_bounds.specs.Bounding.{at_once, bound_at}
use Rattle.host_bounds.specs.Marking.{bit_of}
use Rattle.host_bounds.proofs.Merged.{marked_is, off_is}
use Rattle.host_bounds.proofs.bounds.Bounds.get.Goals as goal

pub returns-then-is_on : goal.returns-then-is_on
returns-then-is_on c =
    let one : bit_of c.self.inside.marks c.args.place ≡ 1 = search rules in
    sym (subst (λ l. bound_at l c.args.place ≡ at_once) c.self.view_is (marked_is c.self.inside.marks c.self.inside.times c.args.place one))

pub returns : goal.returns
returns c =
    let off : nat_eq (bit_of c.self.inside.marks c.args.place) 1 ≡ false = search rules in
    let is : to_z w64 (of_z w64 c.get.result) ≡ bound_at c.self.inside.times c.args.place = search rules in
    is ∙ sym (off_is c.self.inside.marks c.self.inside.times c.args.place off) ∙ ap (λ l. bound_at l c.args.place) c.self.view_is
