use Rattle.std.proofs.Common.{◌≡◌, ◌∙◌, refl, sym, subst, ap}
use Rattle.std.specs.Prelude.{slice_get}
use Rattle.net_host.specs.Indexing.{IsIndexed, IsLentAt, lent_of}
use Rattle.net_host.proofs.Places.{lent_at_place, lent_there, unsettled}
use Rattle.net_host.proofs.filed.Filed.lend_anew.Goals as goal

pub invariant_of-self : goal.invariant_of-self
invariant_of-self g c = record {
  indexed = subst (λ l. IsIndexed g.T.Keyed.keys_of c.settle.new.self.complete l c.settle.new.self.slots.items c.settle.new.self.index.entries c.settle.new.self.free) (sym (c.lent_at-self.ensures ∙ ap (λ xs. lent_of c.args.place (slice_get xs c.args.place)) c.deref.ensures.value))
      (lent_at_place g.T.Keyed.keys_of c.settle.new.self.complete c.args.place c.settle.new.self.slots.items c.settle.new.self.index.entries c.settle.new.self.free c.settle.ensures.settled);
  asleep = c.settle.new.self.asleep;
  as_many = c.settle.new.self.as_many;
  kept = unsettled refl;
  as_marked = c.settle.new.self.as_marked;
  whole = c.settle.new.self.whole;
}

pub returns-clause-lent : goal.returns-clause-lent
returns-clause-lent g c =
    let is : c.lent_at-self.result ≡ lent_of c.args.place (slice_get c.settle.new.self.slots.items c.args.place) = c.lent_at-self.ensures ∙ ap (λ xs. lent_of c.args.place (slice_get xs c.args.place)) c.deref.ensures.value in
    subst (λ l. IsLentAt c.args.place (slice_get c.settle.new.self.slots.items c.args.place) l) (sym is) (lent_there g.T.Keyed.keys_of c.args.place (slice_get c.settle.new.self.slots.items c.args.place))
