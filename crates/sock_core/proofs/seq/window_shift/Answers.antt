use Rattle.std.proofs.Common.{arith}
use Rattle.sock_core.specs.WindowShift.{window_shift}
use Rattle.sock_core.proofs.Shifts.{halvings_is, shift_is, is_shift_fits, is_shift_least}
use Rattle.sock_core.proofs.seq.window_shift.Goals as goal

pub returns-then-above-eq0-clause-value : goal.returns-then-above-eq0-clause-value
unfolding window_shift
returns-then-above-eq0-clause-value c = halvings_is 14 0 c.args.capacity (omega arith) (λ h. omega arith) (λ h. omega arith)

pub returns-clause-value : goal.returns-clause-value
returns-clause-value c = shift_is c.args.capacity c.ilog2.result c.min.result c.ilog2.ensures.power_le c.ilog2.ensures.next_power_gt c.min.ensures

pub returns-clause-fits : goal.returns-clause-fits
returns-clause-fits c = is_shift_fits c.args.capacity c.min.result (shift_is c.args.capacity c.ilog2.result c.min.result c.ilog2.ensures.power_le c.ilog2.ensures.next_power_gt c.min.ensures)

pub returns-clause-least : goal.returns-clause-least
returns-clause-least c = is_shift_least c.args.capacity c.min.result (shift_is c.args.capacity c.ilog2.result c.min.result c.ilog2.ensures.power_le c.ilog2.ensures.next_power_gt c.min.ensures)
