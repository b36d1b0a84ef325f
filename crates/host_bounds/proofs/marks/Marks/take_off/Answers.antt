use Rattle.host_bounds.proofs.Bits.{noted_still}
use Rattle.host_bounds.proofs.marks.Marks.take_off.Goals as goal

pub invariant_of-self : goal.invariant_of-self
invariant_of-self c = noted_still c.self.inside.places.items c.take_off.new.marks.items c.self.inside.words.items c.take_off.new.words.items c.take_off.ensures.cleared.len c.take_off.ensures.len c.take_off.ensures.busy c.self.invariant
