use Rattle.std.proofs.Common.{rules, ◌≡◌, ◌≤◌, length, sym, subst}
use Rattle.std.specs.Prelude.{slice_set}
use Rattle.std.proofs.lemmas.List.{set-get_or, set_past}
use Rattle.host_bounds.specs.Bounding.{at_once, bound_at}
use Rattle.host_bounds.specs.Marking.{bit_of}
use Rattle.host_bounds.proofs.Merged.{marked_is}
use Rattle.host_bounds.proofs.bounds.Bounds.put_at_once.Goals.{else-place-len-via-else-place-len, else-place-len-via-then-place-len+else-not-is_on}
use Rattle.host_bounds.proofs.bounds.Bounds.put_at_once.Goals as goal

pub returns-else-place-len : goal.returns-else-place-len
returns-else-place-len c = elim c.else-place-len.branch [
  | else-place-len-via-then-place-len+else-not-is_on w ↦
      let one : bit_of c.self.inside.marks c.args.place ≡ 1 = search rules in
      let is : bound_at c.args.self.now c.args.place ≡ at_once = subst (λ l. bound_at l c.args.place ≡ at_once) c.self.view_is (marked_is c.self.inside.marks c.self.inside.times c.args.place one) in
      subst (λ b. c.args.self.now ≡ slice_set c.args.self.now c.args.place b) is (sym (set-get_or c.args.self.now c.args.place at_once))
  | else-place-len-via-else-place-len w ↦
      let is : c.len.result ≡ length c.args.self.now = search rules in
      let beyond : length c.args.self.now ≤ c.args.place = subst (λ n. n ≤ c.args.place) is w.if-place-len.false in
      sym (set_past c.args.self.now c.args.place at_once beyond)
]
