use Rattle.host_bounds.proofs.Bits.{noted_still}
use Rattle.host_bounds.proofs.marks.Marks.put_on.Goals as goal

pub invariant_of-self : goal.invariant_of-self
invariant_of-self c = noted_still c.self.inside.places.items c.put_on.new.marks.items c.self.inside.words.items c.put_on.new.words.items c.put_on.ensures.set.len c.put_on.ensures.len c.put_on.ensures.busy c.self.invariant
