use Rattle.std.proofs.Common.{arith}
use Rattle.net_host.proofs.Changes.{changes_if, stays_if}
use Rattle.net_host.specs.Slots.{Empties}
use Rattle.net_host.proofs.set.take_at.Goals as goal

pub returns-clause-emptied : goal.returns-clause-emptied
returns-clause-emptied g c = changes_if c.take.result (λ s. Empties s) _ _ _ _ (omega arith) c.index_mut.ensures.value c.take.ensures.emptied

pub returns-clause-stale : goal.returns-clause-stale
returns-clause-stale g c = stays_if c.take.result _ _ _ _ c.index_mut.ensures.value c.take.ensures.stale
