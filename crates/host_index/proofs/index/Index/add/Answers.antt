use Rattle.std.proofs.Common.{subst, sym}
use Rattle.host_index.specs.Indexing.{IsOrdered}
use Rattle.host_index.proofs.index.Index.add.Goals as goal

pub lower_by-place-requires-clause-ordered : goal.lower_by-place-requires-clause-ordered
lower_by-place-requires-clause-ordered c = subst (IsOrdered c.self.inside.columns) (sym c.deref.ensures.value) c.self.invariant.index.ordered
