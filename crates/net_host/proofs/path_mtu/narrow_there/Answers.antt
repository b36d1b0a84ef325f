use Rattle.net_host.proofs.Changes.{changes_at}
use Rattle.net_host.proofs.path_mtu.narrow_there.Goals as goal

pub returns : goal.returns
returns g c = changes_at _ _ _ _ _ c.requires.within c.index_mut.ensures.value c.narrow.ensures
