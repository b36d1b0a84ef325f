use Rattle.progress_laws.proofs.FromOpening.{lost_syns_come_again}
use Rattle.progress_laws.proofs.lost_syns_come_again.Goals as goal

pub returns : goal.returns
returns c = lost_syns_come_again
