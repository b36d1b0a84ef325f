use Rattle.net_host.proofs.Changes.{changes_at}
use Rattle.net_host.proofs.set.fill.Goals as goal

pub returns-clause-filled : goal.returns-clause-filled
returns-clause-filled g c = changes_at _ _ _ _ _ c.requires c.index_mut.ensures.value c.fill.ensures.filled
