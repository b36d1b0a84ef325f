use Rattle.std.proofs.Common.{◌∙◌, sym, refl, subst, ap}
use Rattle.net_host.specs.Looking.{sleeps}
use Rattle.net_host.specs.Touching.{Touches}
use Rattle.host_index.specs.Filing.{places_of}
use Rattle.net_host.specs.Refiling.{IsWhole}
use Rattle.net_host.proofs.KeptKeys.{heard_keeps}
use Rattle.net_host.proofs.Heard.{heard_len, heard_touches}
use Rattle.net_host.proofs.Places.{unsettled}
use Rattle.net_host.proofs.Touching.{touches_sleep}
use Rattle.net_host.proofs.copies.hear_datagram_of.Goals as goal

pub invariant_of-sockets : goal.invariant_of-sockets
invariant_of-sockets g c = record {
  indexed = heard_keeps c.datagram_taker-found.result c.args.ip.now c.args.repr.now c.args.payload.now c.hear_found-room.result c.settle.new.self.complete c.settle.new.self.lent c.settle.new.self.slots.items c.hear_found-room.new.slots.items c.settle.new.self.index.entries c.settle.new.self.free c.hear_found-room.ensures c.settle.new.self.indexed;
  asleep = touches_sleep (λ u b s. sleeps u b s) c.settle.new.self.terms c.settle.new.self.bounds c.settle.new.self.slots.items c.touch_found.new.bounds c.hear_found-room.new.slots.items (heard_touches c.datagram_taker-found.result c.args.ip.now c.args.repr.now c.args.payload.now c.hear_found-room.result c.settle.new.self.bounds c.settle.new.self.slots.items c.touch_found.new.bounds c.hear_found-room.new.slots.items c.touch_found.ensures.found c.touch_found.ensures.none c.hear_found-room.ensures) c.settle.new.self.asleep;
  as_many = c.touch_found.ensures.len ∙ c.settle.new.self.as_many ∙ sym (heard_len c.datagram_taker-found.result c.args.ip.now c.args.repr.now c.args.payload.now c.hear_found-room.result c.settle.new.self.slots.items c.hear_found-room.new.slots.items c.hear_found-room.ensures);
  kept = unsettled refl;
  as_marked = c.settle.new.self.as_marked;
  whole = subst (λ n. IsWhole c.settle.new.self.complete (places_of c.settle.new.self.index) n) (sym (heard_len c.datagram_taker-found.result c.args.ip.now c.args.repr.now c.args.payload.now c.hear_found-room.result c.settle.new.self.slots.items c.hear_found-room.new.slots.items c.hear_found-room.ensures)) c.settle.new.self.whole;
}

pub returns-clause-touched : goal.returns-clause-touched
returns-clause-touched g c =
    subst (λ v. Touches c.args.sockets.now.bounds v.items c.touch_found.new.bounds c.hear_found-room.new.slots.items) c.settle.ensures.slots
    (subst (λ bs. Touches bs c.settle.new.self.slots.items c.touch_found.new.bounds c.hear_found-room.new.slots.items) c.settle.ensures.bounds
    (heard_touches c.datagram_taker-found.result c.args.ip.now c.args.repr.now c.args.payload.now c.hear_found-room.result c.settle.new.self.bounds c.settle.new.self.slots.items c.touch_found.new.bounds c.hear_found-room.new.slots.items c.touch_found.ensures.found c.touch_found.ensures.none c.hear_found-room.ensures))
