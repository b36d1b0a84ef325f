use Rattle.tcp_laws.proofs.Undoing.{decides, undoes, undoes_once}
use Rattle.tcp_laws.proofs.loss.recoveries_for_nothing_are_undone.Goals as goal

pub returns-clause-undoes : goal.returns-clause-undoes
returns-clause-undoes c = undoes

pub returns-clause-decides : goal.returns-clause-decides
returns-clause-decides c = decides

pub returns-clause-once : goal.returns-clause-once
returns-clause-once c = undoes_once
