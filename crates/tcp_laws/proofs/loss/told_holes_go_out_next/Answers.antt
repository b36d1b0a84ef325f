use Rattle.tcp_laws.proofs.Holes.{blocks_tell_loss, due_resend_begins, marked_hole_goes_out, third_duplicate_resends}
use Rattle.tcp_laws.proofs.loss.told_holes_go_out_next.Goals as goal

pub returns-clause-duplicates : goal.returns-clause-duplicates
returns-clause-duplicates c = third_duplicate_resends

pub returns-clause-blocks : goal.returns-clause-blocks
returns-clause-blocks c = blocks_tell_loss

pub returns-clause-begins : goal.returns-clause-begins
returns-clause-begins c = due_resend_begins

pub returns-clause-out : goal.returns-clause-out
returns-clause-out c = marked_hole_goes_out
