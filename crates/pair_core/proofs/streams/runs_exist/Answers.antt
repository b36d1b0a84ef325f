use Rattle.pair_core.proofs.NetworkExample.{ordinary_run, fall_back_run, crossed_run}
use Rattle.pair_core.proofs.streams.runs_exist.Goals as goal

pub returns : goal.returns
returns c = record { ordinary = ordinary_run; fall_back = fall_back_run; both_connect = crossed_run }
