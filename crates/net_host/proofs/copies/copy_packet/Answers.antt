use Rattle.std.proofs.Common.{◌∙◌, sym, subst, refl}
use Rattle.net_host.specs.Looking.{sleeps}
use Rattle.net_host.specs.RawCopies.{CopiesPacket}
use Rattle.net_host.specs.Walks.{ChangesEach}
use Rattle.net_host.specs.Filing.{keys_of}
use Rattle.host_index.specs.Filing.{places_of}
use Rattle.net_host.specs.Refiling.{IsWhole}
use Rattle.net_host.proofs.Sleepers.{each_len}
use Rattle.net_host.proofs.KeptKeys.{copies_keep, none_copied}
use Rattle.net_host.proofs.Places.{all_filed, unsettled}
use Rattle.net_host.proofs.Touching.{touches_sleep}
use Rattle.net_host.proofs.copies.copy_packet.Goals as goal

pub returns-then-has_no_raw-clause-copied : goal.returns-then-has_no_raw-clause-copied
returns-then-has_no_raw-clause-copied g c = subst (λ v. ChangesEach (CopiesPacket (g.C.Context.facts c.args.cx.now) c.args.ip.now c.args.payload.now) v.items c.settle.new.self.slots.items) c.settle.ensures.slots (none_copied (g.C.Context.facts c.args.cx.now) c.args.ip.now c.args.payload.now c.settle.new.self.slots.items (c.has_no_raw.ensures c.if-has_no_raw.true))

pub copy_packet_to-requires : goal.copy_packet_to-requires
copy_packet_to-requires g c = λ whole. all_filed (λ s. keys_of s) c.settle.new.self.complete c.settle.new.self.slots.items c.settle.new.self.index.entries c.settle.new.self.free whole c.settle.ensures.settled

pub invariant_of-sockets : goal.invariant_of-sockets
invariant_of-sockets g c = record {
  indexed = copies_keep (g.C.Context.facts c.args.cx.now) c.args.ip.now c.args.payload.now c.settle.new.self.complete c.settle.new.self.lent c.settle.new.self.slots.items c.copy_packet_to.new.slots.items c.settle.new.self.index.entries c.settle.new.self.free c.copy_packet_to.ensures.copied c.settle.new.self.indexed;
  asleep = touches_sleep (λ u b s. sleeps u b s) c.settle.new.self.terms c.settle.new.self.bounds c.settle.new.self.slots.items c.copy_packet_to.new.bounds c.copy_packet_to.new.slots.items c.copy_packet_to.ensures.touched c.settle.new.self.asleep;
  as_many = c.copy_packet_to.ensures.len ∙ c.settle.new.self.as_many ∙ sym (each_len _ c.settle.new.self.slots.items c.copy_packet_to.new.slots.items c.copy_packet_to.ensures.copied);
  kept = unsettled refl;
  as_marked = c.settle.new.self.as_marked;
  whole = subst (λ n. IsWhole c.settle.new.self.complete (places_of c.settle.new.self.index) n) (sym (each_len _ c.settle.new.self.slots.items c.copy_packet_to.new.slots.items c.copy_packet_to.ensures.copied)) c.settle.new.self.whole;
}
