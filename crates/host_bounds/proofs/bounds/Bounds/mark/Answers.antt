use Rattle.std.proofs.Common.{◌∙◌, ap, subst, sym}
use Rattle.std.specs.Prelude.{slice_set}
use Rattle.host_bounds.specs.Bounding.{at_once}
use Rattle.host_bounds.specs.Marking.{IsFirstMark}
use Rattle.host_bounds.proofs.Merged.{marks_bounds, now_marked, within_times}
use Rattle.host_bounds.proofs.bounds.Bounds.mark.Goals as goal

pub put_on-requires : goal.put_on-requires
put_on-requires c = c.self.invariant.bounds.reach c.args.place (within_times c.self.inside.marks c.self.inside.times c.args.self.now c.args.place c.self.view_is c.requires)

pub invariant_of-self : goal.invariant_of-self
invariant_of-self c = record {
  bounds = marks_bounds c.self.inside.marks c.put_on.new.self c.self.inside.times c.args.place (within_times c.self.inside.marks c.self.inside.times c.args.self.now c.args.place c.self.view_is c.requires) c.put_on.ensures c.self.invariant.bounds;
  first_mark = subst (λ n. IsFirstMark c.put_on.new.self n c.put_on-2.new.self.place c.put_on-2.new.self.alone) c.len.ensures
      (c.put_on-2.ensures c.self.inside.marks c.put_on.new.self c.put_on.ensures (subst (λ n. IsFirstMark c.self.inside.marks n c.self.inside.first.place c.self.inside.first.alone) (sym c.len.ensures) c.self.invariant.first_mark));
}

pub returns : goal.returns
returns c =
    now_marked c.self.inside.marks c.put_on.new.self c.self.inside.times c.args.place (within_times c.self.inside.marks c.self.inside.times c.args.self.now c.args.place c.self.view_is c.requires) c.put_on.ensures
    ∙ ap (λ l. slice_set l c.args.place at_once) c.self.view_is
