use Rattle.std.proofs.Common.{rules, ◌≡◌, ◌∙◌, length, ap, subst, sym}
use Rattle.std.specs.Prelude.{◌<ℤ◌, slice_set}
use Rattle.std.proofs.lemmas.List.{length-set}
use Rattle.host_bounds.specs.Bounding.{at_once}
use Rattle.host_bounds.specs.Marking.{AreBounds, AreKept, Clears, IsFirstMark, merged}
use Rattle.host_bounds.proofs.Merged.{now_timed, times_bounds, was_clear, within_times}
use Rattle.host_bounds.proofs.bounds.Bounds.time.Goals.{then-marked, else-marked}
use Rattle.host_bounds.proofs.bounds.Bounds.time.Goals as goal

pub take_off-requires : goal.take_off-requires
take_off-requires c = c.self.invariant.bounds.reach c.args.place (within_times c.self.inside.marks c.self.inside.times c.args.self.now c.args.place c.self.view_is c.requires.there)

pub invariant_of-self : goal.invariant_of-self
invariant_of-self c = elim c.if-marked.branch [
  | then-marked w ↦
      let times : c.set.new.self ≡ slice_set c.self.inside.times c.args.place c.args.bound = search rules in
      let later : at_once <ℤ c.args.bound = search rules in
      let many : w.len.result ≡ length c.set.new.self = w.len.ensures ∙ sym (ap length times ∙ length-set c.self.inside.times c.args.place c.args.bound) in
      subst (λ s. AreKept s.marks c.set.new.self s.first.place s.first.alone) (sym w.self-inside-is) (record {
        bounds = subst (AreBounds w.take_off.new.self) (sym times) (times_bounds c.self.inside.marks w.take_off.new.self c.self.inside.times c.args.place (within_times c.self.inside.marks c.self.inside.times c.args.self.now c.args.place c.self.view_is c.requires.there) c.args.bound later w.take_off.ensures c.self.invariant.bounds);
        first_mark = subst (λ n. IsFirstMark w.take_off.new.self n w.take_off-then-marked.new.self.place w.take_off-then-marked.new.self.alone) many
            (w.take_off-then-marked.ensures c.self.inside.marks w.take_off.ensures (subst (λ n. IsFirstMark c.self.inside.marks n c.self.inside.first.place c.self.inside.first.alone) (sym w.len.ensures) c.self.invariant.first_mark));
      })
  | else-marked w ↦
      let times : c.set.new.self ≡ slice_set c.self.inside.times c.args.place c.args.bound = search rules in
      let later : at_once <ℤ c.args.bound = search rules in
      let many : length c.self.inside.times ≡ length c.set.new.self = sym (ap length times ∙ length-set c.self.inside.times c.args.place c.args.bound) in
      let clear : Clears c.args.place c.self.inside.marks c.self.inside.marks = was_clear c.self.inside.marks c.args.place (search rules) in
      subst (λ s. AreKept s.marks c.set.new.self s.first.place s.first.alone) (sym w.self-inside-is) (record {
        bounds = subst (AreBounds c.self.inside.marks) (sym times) (times_bounds c.self.inside.marks c.self.inside.marks c.self.inside.times c.args.place (within_times c.self.inside.marks c.self.inside.times c.args.self.now c.args.place c.self.view_is c.requires.there) c.args.bound later clear c.self.invariant.bounds);
        first_mark = subst (λ n. IsFirstMark c.self.inside.marks n c.self.inside.first.place c.self.inside.first.alone) many c.self.invariant.first_mark;
      })
]

pub returns : goal.returns
returns c = elim c.if-marked.branch [
  | then-marked w ↦
      let times : c.set.new.self ≡ slice_set c.self.inside.times c.args.place c.args.bound = search rules in
      ap (λ s. merged 0 s.marks c.set.new.self) w.self-inside-is
      ∙ ap (merged 0 w.take_off.new.self) times
      ∙ now_timed c.self.inside.marks w.take_off.new.self c.self.inside.times c.args.place (within_times c.self.inside.marks c.self.inside.times c.args.self.now c.args.place c.self.view_is c.requires.there) c.args.bound w.take_off.ensures
      ∙ ap (λ l. slice_set l c.args.place c.args.bound) c.self.view_is
  | else-marked w ↦
      let times : c.set.new.self ≡ slice_set c.self.inside.times c.args.place c.args.bound = search rules in
      let clear : Clears c.args.place c.self.inside.marks c.self.inside.marks = was_clear c.self.inside.marks c.args.place (search rules) in
      ap (λ s. merged 0 s.marks c.set.new.self) w.self-inside-is
      ∙ ap (merged 0 c.self.inside.marks) times
      ∙ now_timed c.self.inside.marks c.self.inside.marks c.self.inside.times c.args.place (within_times c.self.inside.marks c.self.inside.times c.args.self.now c.args.place c.self.view_is c.requires.there) c.args.bound clear
      ∙ ap (λ l. slice_set l c.args.place c.args.bound) c.self.view_is
]
