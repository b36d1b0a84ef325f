use Rattle.host_bounds.proofs.Bits.{busy_without}
use Rattle.host_bounds.proofs.marks.take_off.Goals as goal

pub returns-else-clear_bit-clause-busy : goal.returns-else-clear_bit-clause-busy
returns-else-clear_bit-clause-busy c = busy_without c.args.marks.now.items c.clear_bit.new.words.items c.args.words.now.items c.args.words.now.items c.args.place c.requires.busy c.clear_bit.ensures.cleared
