use Rattle.net_host.proofs.Changes.{changes_at}
use Rattle.net_host.proofs.lent_turns.turn_there.Goals as goal

pub returns-clause-table : goal.returns-clause-table
returns-clause-table g c = changes_at _ _ _ _ _ c.requires c.index_mut.ensures.value c.take_turn.ensures.table
