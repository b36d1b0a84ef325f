use Rattle.std.proofs.Common.{subst, sym}
use Rattle.host_index.specs.Indexing.{IsOrdered}
use Rattle.host_index.proofs.index.Index.search.Goals as goal

pub lower_or_end-self-inside-requires-clause-ordered : goal.lower_or_end-self-inside-requires-clause-ordered
lower_or_end-self-inside-requires-clause-ordered c = subst (IsOrdered c.self.inside.columns) (sym c.deref.ensures.value) c.self.invariant.index.ordered
