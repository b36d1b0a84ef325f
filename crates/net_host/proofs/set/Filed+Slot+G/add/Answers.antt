use Rattle.net_host.specs.Looking.{sleeps}
use Rattle.host_index.specs.Filing.{places_of}
use Rattle.net_host.specs.Refiling.{IsWhole}
use Rattle.net_host.proofs.Sleepers.{changed_len, marked_changes}
use Rattle.std.proofs.Common.{◌∙◌, sym, subst}
use Rattle.net_host.specs.Filing.{keys_of}
use Rattle.net_host.proofs.Places.{lent_changed, unsettled}
use Rattle.net_host.proofs.set.Filed+Slot+G.add.Goals as goal

pub invariant_of-self : goal.invariant_of-self
invariant_of-self g c = record {
  indexed = lent_changed (λ s. keys_of s) _ c.lend_out.new.self.complete c.lend_out.new.self.lent c.lend_out.new.self.slots.items c.fill.new.slots.items c.lend_out.new.self.index.entries c.lend_out.new.self.free c.in-Some.index c.lend_out.ensures.lent c.lend_out.new.self.indexed c.fill.ensures.filled;
  asleep = marked_changes (λ u b s. sleeps u b s) _ c.lend_out.new.self.terms c.lend_out.new.self.bounds c.lend_out.new.self.slots.items c.fill.new.slots.items c.in-Some.index c.lend_out.ensures.marked c.fill.ensures.filled c.lend_out.new.self.asleep;
  as_many = c.lend_out.new.self.as_many ∙ sym (changed_len _ c.lend_out.new.self.slots.items c.fill.new.slots.items c.in-Some.index c.fill.ensures.filled);
  kept = unsettled c.lend_out.ensures.unsettled;
  as_marked = c.lend_out.new.self.as_marked;
  whole = subst (λ n. IsWhole c.lend_out.new.self.complete (places_of c.lend_out.new.self.index) n) (sym (changed_len _ c.lend_out.new.self.slots.items c.fill.new.slots.items c.in-Some.index c.fill.ensures.filled)) c.lend_out.new.self.whole;
}
