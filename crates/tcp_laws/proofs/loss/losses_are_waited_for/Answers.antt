use Rattle.tcp_laws.proofs.Late.{a_round_trip_at_most, late_hole_goes_out, no_loss_is_forgotten, nothing_is_late, nothing_waits}
use Rattle.tcp_laws.proofs.loss.losses_are_waited_for.Goals as goal

pub returns-clause-told : goal.returns-clause-told
returns-clause-told c = no_loss_is_forgotten

pub returns-clause-sent : goal.returns-clause-sent
returns-clause-sent c = late_hole_goes_out

pub returns-clause-unseen : goal.returns-clause-unseen
returns-clause-unseen c = nothing_waits

pub returns-clause-unseen_then : goal.returns-clause-unseen_then
returns-clause-unseen_then c = nothing_is_late

pub returns-clause-most : goal.returns-clause-most
returns-clause-most c = a_round_trip_at_most
