use Rattle.sock_tcp.proofs.Explaining.{challenged_are_challenged, dropped_change_nothing, ignored_tell_nothing, no_row_is_not_accepted, outside_are_answered, resets_end, unacceptable_are_reset}
use Rattle.sock_tcp.proofs.Taking.{behind_gap_are_taken, in_order_are_taken, nothing_new_is_challenged}
use Rattle.sock_tcp.proofs.explained.rows_say_what_becomes.Goals as goal

pub returns-clause-dropped : goal.returns-clause-dropped
returns-clause-dropped c = dropped_change_nothing

pub returns-clause-reset : goal.returns-clause-reset
returns-clause-reset c = unacceptable_are_reset

pub returns-clause-challenged : goal.returns-clause-challenged
returns-clause-challenged c = challenged_are_challenged

pub returns-clause-outside : goal.returns-clause-outside
returns-clause-outside c = outside_are_answered

pub returns-clause-ends : goal.returns-clause-ends
returns-clause-ends c = resets_end

pub returns-clause-ignored : goal.returns-clause-ignored
returns-clause-ignored c = ignored_tell_nothing

pub returns-clause-accepted : goal.returns-clause-accepted
returns-clause-accepted c = no_row_is_not_accepted

pub returns-clause-in_order : goal.returns-clause-in_order
returns-clause-in_order c = in_order_are_taken

pub returns-clause-behind_gap : goal.returns-clause-behind_gap
returns-clause-behind_gap c = behind_gap_are_taken

pub returns-clause-nothing_new : goal.returns-clause-nothing_new
returns-clause-nothing_new c = nothing_new_is_challenged
