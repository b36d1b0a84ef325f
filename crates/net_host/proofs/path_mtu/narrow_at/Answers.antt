use Rattle.std.proofs.Common.{◌∙◌, ap, sym, subst}
use Rattle.net_host.specs.Filing.{keys_of}
use Rattle.net_host.specs.Looking.{sleeps}
use Rattle.host_index.specs.Filing.{places_of}
use Rattle.net_host.specs.Refiling.{IsWhole}
use Rattle.net_host.proofs.Places.{lent_changed, unsettled}
use Rattle.net_host.proofs.Sleepers.{changed_len, marked_changes}
use Rattle.net_host.proofs.Touching.{touches_lent}
use Rattle.net_host.proofs.path_mtu.narrow_at.Goals as goal

pub invariant_of-sockets : goal.invariant_of-sockets
invariant_of-sockets g c = record {
  indexed = lent_changed (λ s. keys_of s) _ c.lend.new.self.complete c.lend.new.self.lent c.lend.new.self.slots.items c.narrow_there.new.slots.items c.lend.new.self.index.entries c.lend.new.self.free c.args.i c.lend.ensures.lent c.lend.new.self.indexed c.narrow_there.ensures;
  asleep = marked_changes (λ u b s. sleeps u b s) _ c.lend.new.self.terms c.lend.new.self.bounds c.lend.new.self.slots.items c.narrow_there.new.slots.items c.args.i c.lend.ensures.marked c.narrow_there.ensures c.lend.new.self.asleep;
  as_many = c.lend.new.self.as_many ∙ sym (changed_len _ c.lend.new.self.slots.items c.narrow_there.new.slots.items c.args.i c.narrow_there.ensures);
  kept = unsettled c.lend.ensures.unsettled;
  as_marked = c.lend.new.self.as_marked;
  whole = subst (λ n. IsWhole c.lend.new.self.complete (places_of c.lend.new.self.index) n) (sym (changed_len _ c.lend.new.self.slots.items c.narrow_there.new.slots.items c.args.i c.narrow_there.ensures)) c.lend.new.self.whole;
}

pub returns-clause-touched : goal.returns-clause-touched
returns-clause-touched g c = touches_lent _ c.args.sockets.now.bounds c.args.sockets.now.slots.items c.lend.new.self.bounds c.lend.new.self.slots.items c.narrow_there.new.slots.items c.args.i c.lend.ensures.bounds (ap (λ v. v.items) c.lend.ensures.slots) c.narrow_there.ensures
