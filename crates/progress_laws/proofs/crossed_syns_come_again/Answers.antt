use Rattle.progress_laws.proofs.FromOpening.{crossed_syns_come_again}
use Rattle.progress_laws.proofs.crossed_syns_come_again.Goals as goal

pub returns : goal.returns
returns c = crossed_syns_come_again
