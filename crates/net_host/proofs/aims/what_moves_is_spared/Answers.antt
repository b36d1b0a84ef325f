use Rattle.net_host.proofs.Aim.{spares_what_moved, spares_what_moves}
use Rattle.net_host.proofs.aims.what_moves_is_spared.Goals as goal

pub returns-clause-moved : goal.returns-clause-moved
returns-clause-moved c = spares_what_moved

pub returns-clause-moves : goal.returns-clause-moves
returns-clause-moves c = spares_what_moves
