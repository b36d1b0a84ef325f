use Rattle.net_host.proofs.Changes.{changes_at}
use Rattle.net_host.proofs.datagrams.hear_datagram_at.Goals as goal

pub returns : goal.returns
returns g c = changes_at _ _ _ _ _ c.requires.within c.index_mut.ensures.value c.hear_datagram.ensures
