use Rattle.net_host.proofs.Changes.{changes_at}
use Rattle.net_host.proofs.answered.hear_out_there.Goals as goal

pub returns-clause-heard : goal.returns-clause-heard
returns-clause-heard g c = changes_at _ _ _ _ _ c.requires.within c.index_mut.ensures.value c.hear_out.ensures.heard
