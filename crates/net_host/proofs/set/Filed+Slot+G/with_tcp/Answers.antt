use Rattle.std.proofs.Common.{◌∙◌, sym, subst}
use Rattle.std.specs.Fn.{FnOnceReturnsAtMut}
use Rattle.std.specs.Prelude.{IfNone, None, ◌≡◌}
use Rattle.net_host.specs.Looking.{sleeps}
use Rattle.host_index.specs.Filing.{places_of}
use Rattle.net_host.specs.Refiling.{IsWhole}
use Rattle.net_host.proofs.Sleepers.{changed_len_if, marked_changes_if}
use Rattle.net_host.specs.Filing.{keys_of}
use Rattle.net_host.specs.Slots.{LeavesTcp}
use Rattle.net_host.proofs.Places.{lent_changed_if, unsettled}
use Rattle.net_host.proofs.set.Filed+Slot+G.with_tcp.Goals as goal

pub invariant_of-self : goal.invariant_of-self
invariant_of-self g c = record {
  indexed = lent_changed_if (λ s. keys_of s) c.with_tcp_at.result (λ r b a. LeavesTcp (λ s t. FnOnceReturnsAtMut g.F.FnOnce c.args.f s r t) c.args.handle.generation b a) c.lend_out.new.self.complete c.lend_out.new.self.lent c.lend_out.new.self.slots.items c.with_tcp_at.new.slots.items c.lend_out.new.self.index.entries c.lend_out.new.self.free c.args.handle.index c.lend_out.ensures.lent c.lend_out.new.self.indexed c.with_tcp_at.ensures.called c.with_tcp_at.ensures.stale;
  asleep = marked_changes_if (λ u b s. sleeps u b s) c.with_tcp_at.result (λ r b a. LeavesTcp (λ s t. FnOnceReturnsAtMut g.F.FnOnce c.args.f s r t) c.args.handle.generation b a) c.lend_out.new.self.terms c.lend_out.new.self.bounds c.lend_out.new.self.slots.items c.with_tcp_at.new.slots.items c.args.handle.index c.lend_out.ensures.marked c.with_tcp_at.ensures.called c.with_tcp_at.ensures.stale c.lend_out.new.self.asleep;
  as_many = c.lend_out.new.self.as_many ∙ sym (changed_len_if c.with_tcp_at.result (λ r b a. LeavesTcp (λ s t. FnOnceReturnsAtMut g.F.FnOnce c.args.f s r t) c.args.handle.generation b a) c.lend_out.new.self.slots.items c.with_tcp_at.new.slots.items c.args.handle.index c.with_tcp_at.ensures.called c.with_tcp_at.ensures.stale);
  kept = unsettled c.lend_out.ensures.unsettled;
  as_marked = c.lend_out.new.self.as_marked;
  whole = subst (λ n. IsWhole c.lend_out.new.self.complete (places_of c.lend_out.new.self.index) n) (sym (changed_len_if c.with_tcp_at.result (λ r b a. LeavesTcp (λ s t. FnOnceReturnsAtMut g.F.FnOnce c.args.f s r t) c.args.handle.generation b a) c.lend_out.new.self.slots.items c.with_tcp_at.new.slots.items c.args.handle.index c.with_tcp_at.ensures.called c.with_tcp_at.ensures.stale)) c.lend_out.new.self.whole;
}
