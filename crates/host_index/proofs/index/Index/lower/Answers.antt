use Rattle.std.proofs.Common.{◌≡◌, ◌∙◌, subst, sym, ap}
use Rattle.host_index.specs.Entries.{IsSortedByRank, Splits, rank}
use Rattle.host_index.specs.Indexing.{IsOrdered, entries_in}
use Rattle.host_index.proofs.Entered.{same_entry}
use Rattle.host_index.proofs.Numbers.{sorted}
use Rattle.host_index.proofs.index.Index.lower.Goals as goal

pub returns-then-is_entry-clause-splits : goal.returns-then-is_entry-clause-splits
returns-then-is_entry-clause-splits c =
    let same : c.args.key ≡ c.self.inside.sought = same_entry c.args.key c.self.inside.sought (sym c.is_entry.ensures ∙ c.if-is_entry.true) in
    subst (λ l. Splits l (rank c.args.key) c.self.inside.begins) (ap (λ v. v.entries) c.self.view_is) (subst (λ e. Splits (entries_in c.self.inside.columns c.self.inside.order.items) (rank e) c.self.inside.begins) (sym same) c.self.invariant.begins)

pub returns-then-is_entry-clause-sorted : goal.returns-then-is_entry-clause-sorted
returns-then-is_entry-clause-sorted c = subst IsSortedByRank (ap (λ v. v.entries) c.self.view_is) (sorted c.self.inside.columns c.self.inside.order.items c.self.invariant.index.ordered)

pub lower_by-requires-clause-ordered : goal.lower_by-requires-clause-ordered
lower_by-requires-clause-ordered c = subst (IsOrdered c.self.inside.columns) (sym c.deref.ensures.value) c.self.invariant.index.ordered

pub returns-clause-sorted : goal.returns-clause-sorted
returns-clause-sorted c = subst IsSortedByRank (ap (λ v. v.entries) c.self.view_is) (sorted c.self.inside.columns c.self.inside.order.items c.self.invariant.index.ordered)
