use Rattle.std.proofs.Common.{◌≡◌, ◌∙◌, ◌<◌, ◌/◌, false, length, get_or, ap, subst, sym}
use Rattle.host_index.specs.Columns.{entry_in, is_free}
use Rattle.host_index.specs.Entries.{Splits, nothing, rank}
use Rattle.host_index.specs.Indexing.{IsOrdered, entries_in, number_at}
use Rattle.host_index.proofs.Numbers.{entry_of, stands_there}
use Rattle.host_index.proofs.index.Index.stands.Goals as goal

pub lower-requires-clause-ordered : goal.lower-requires-clause-ordered
lower-requires-clause-ordered c = subst (IsOrdered c.self.inside.columns) (sym c.deref-in-None.ensures.value) c.self.invariant.index.ordered

module _ (c : goal.After-lower) where
  begins : Splits (entries_in c.self.inside.columns c.self.inside.order.items) (rank (entry_in c.self.inside.columns c.args.number)) c.lower.result
  begins = subst (λ e. Splits (entries_in c.self.inside.columns c.self.inside.order.items) (rank e) c.lower.result) c.get.ensures (subst (λ os. Splits (entries_in c.self.inside.columns os) (rank c.get.result) c.lower.result) c.deref-in-None.ensures.value c.lower.ensures)

  there : (c.lower.result < length c.self.inside.order.items) × (number_at c.self.inside.order.items c.lower.result ≡ c.args.number)
  there = stands_there c.self.inside.columns c.self.inside.order.items c.args.number c.lower.result c.self.invariant.index
      (subst (λ v. c.args.number / 2 < length v.columns.majors.items) (sym c.self.view_is) c.requires.within)
      (subst (λ v. is_free v.columns c.args.number ≡ false) (sym c.self.view_is) c.requires.taken)
      begins

pub returns-in-None-clause-within : goal.returns-in-None-clause-within
returns-in-None-clause-within c = subst (λ v. c.lower.result < length v.order) c.self.view_is (there c).0

pub returns-in-None-clause-entry : goal.returns-in-None-clause-entry
returns-in-None-clause-entry c = subst (λ v. get_or v.entries c.lower.result nothing ≡ entry_in v.columns c.args.number) c.self.view_is
    (entry_of c.self.inside.columns c.self.inside.order.items c.lower.result (there c).0 ∙ ap (entry_in c.self.inside.columns) (there c).1)

pub returns-in-None-clause-number : goal.returns-in-None-clause-number
returns-in-None-clause-number c = subst (λ v. number_at v.order c.lower.result ≡ c.args.number) c.self.view_is (there c).1
