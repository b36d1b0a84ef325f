use Rattle.host_bounds.proofs.Bits.{busy_with}
use Rattle.host_bounds.proofs.marks.put_on.Goals as goal

pub returns-clause-busy : goal.returns-clause-busy
returns-clause-busy c = busy_with c.args.marks.now.items c.set_bit.new.words.items c.args.words.now.items c.set_bit-2.new.words.items c.args.place c.requires.busy c.set_bit.ensures c.set_bit-2.ensures
