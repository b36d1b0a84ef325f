use Rattle.std.proofs.Common.{◌∙◌, length, sym, subst, ap}
use Rattle.std.proofs.lemmas.List.{length-set}
use Rattle.host_bounds.specs.Bounding.{at_once, bound_at}
use Rattle.net_host.specs.Sleeping.{AreAsleep}
use Rattle.net_host.proofs.Sleepers.{marked_set, marked_there}
use Rattle.net_host.proofs.filed.Filed.mark.Goals as goal

pub invariant_of-self : goal.invariant_of-self
invariant_of-self g c = record {
  indexed = c.args.self.now.indexed;
  asleep = subst (λ bs. AreAsleep g.T.Keyed.sleeps c.args.self.now.terms bs c.args.self.now.slots.items) (sym c.put_at_once.ensures) (marked_set g.T.Keyed.sleeps c.args.self.now.terms c.args.self.now.bounds c.args.self.now.slots.items c.args.place c.args.self.now.asleep);
  as_many = ap length c.put_at_once.ensures ∙ length-set c.args.self.now.bounds c.args.place at_once ∙ c.args.self.now.as_many;
  kept = c.args.self.now.kept;
  as_marked = c.args.self.now.as_marked;
  whole = c.args.self.now.whole;
}

pub returns-clause-marked : goal.returns-clause-marked
returns-clause-marked g c = ap (λ bs. bound_at bs c.args.place) c.put_at_once.ensures ∙ marked_there c.args.self.now.bounds c.args.place
