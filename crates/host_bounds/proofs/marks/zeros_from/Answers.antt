use Rattle.host_bounds.proofs.Bits.{zeros_behind}
use Rattle.host_bounds.proofs.marks.zeros_from.Goals as goal

pub returns-clause-zeros : goal.returns-clause-zeros
returns-clause-zeros c = λ i from to. zeros_behind c.args.word c.args.bit i c.ranges.word.fits from to
