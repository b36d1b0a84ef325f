use Rattle.std.proofs.Common.{◌∙◌, length, sym, subst}
use Rattle.host_index.specs.Filing.{places_of}
use Rattle.net_host.specs.Refiling.{IsWhole}
use Rattle.net_host.proofs.Each.{set_len}
use Rattle.net_host.proofs.Places.{lent_writes, unsettled}
use Rattle.net_host.proofs.Sleepers.{marked_writes}
use Rattle.net_host.proofs.filed.Filed.place_mut.Goals as goal

pub invariant_of-self-lent : goal.invariant_of-self-lent
invariant_of-self-lent g c = λ o. ((λ w. (lent_writes g.T.Keyed.keys_of c.lend_out.new.self.complete c.lend_out.new.self.lent c.lend_out.new.self.slots.items c.lend_out.new.self.index.entries c.lend_out.new.self.free c.args.place w c.lend_out.ensures.lent c.lend_out.new.self.indexed, (marked_writes g.T.Keyed.sleeps c.lend_out.new.self.terms c.lend_out.new.self.bounds c.lend_out.new.self.slots.items c.args.place w c.lend_out.ensures.marked c.lend_out.new.self.asleep, (c.lend_out.new.self.as_many ∙ sym (set_len c.lend_out.new.self.slots.items c.args.place w), (unsettled c.lend_out.ensures.unsettled, (c.lend_out.new.self.as_marked, (subst (λ n. IsWhole c.lend_out.new.self.complete (places_of c.lend_out.new.self.index) n) (sym (set_len c.lend_out.new.self.slots.items c.args.place w)) c.lend_out.new.self.whole, tt))))))), (c.lend_out.new.self.indexed, (c.lend_out.new.self.asleep, (c.lend_out.new.self.as_many, (c.lend_out.new.self.kept, (c.lend_out.new.self.as_marked, (c.lend_out.new.self.whole, tt)))))))
