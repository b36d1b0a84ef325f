use Rattle.tcp_laws.proofs.Telling.{dispatch_tells_held, dispatch_tells_nothing, process_says}
use Rattle.tcp_laws.proofs.loss.answers_tell_what_is_held.Goals as goal

pub returns-clause-answers : goal.returns-clause-answers
returns-clause-answers c = process_says

pub returns-clause-dispatches : goal.returns-clause-dispatches
returns-clause-dispatches c = dispatch_tells_held

pub returns-clause-nothing : goal.returns-clause-nothing
returns-clause-nothing c = dispatch_tells_nothing
