use Rattle.std.proofs.Common.{◌∙◌, length, sym, ap, subst, refl}
use Rattle.std.proofs.lemmas.List.{length-set}
use Rattle.std.specs.Prelude.{slice_get}
use Rattle.host_bounds.specs.Bounding.{at_once, bound_at}
use Rattle.net_host.specs.Looking.{sleeps}
use Rattle.net_host.specs.Sleeping.{AreAsleep}
use Rattle.host_index.specs.Filing.{places_of}
use Rattle.net_host.specs.Refiling.{IsWhole}
use Rattle.net_host.proofs.Sleepers.{changed_len, marked_changes, marked_set, marked_there}
use Rattle.net_host.proofs.KeptKeys.{ends_not, watch_keeps}
use Rattle.net_host.proofs.Places.{unsettled}
use Rattle.net_host.proofs.lent_turns.watch_kept.Goals as goal

pub invariant_of-sockets : goal.invariant_of-sockets
invariant_of-sockets g c = record {
  indexed = watch_keeps c.args.sockets.now.terms.guards c.args.now c.args.sockets.now.complete c.args.sockets.now.lent c.args.sockets.now.slots.items c.keep_there.new.slots.items c.args.sockets.now.index.entries c.args.sockets.now.free c.args.i
      (ends_not c.args.sockets.now.terms.guards c.args.now c.args.sight.now (slice_get c.args.sockets.now.slots.items c.args.i) c.requires.seen c.requires.kept) c.keep_there.ensures c.args.sockets.now.indexed;
  asleep = marked_changes (λ u b s. sleeps u b s) _ c.args.sockets.now.terms c.put_at_once.new.self c.args.sockets.now.slots.items c.keep_there.new.slots.items c.args.i (ap (λ bs. bound_at bs c.args.i) c.put_at_once.ensures ∙ marked_there c.args.sockets.now.bounds c.args.i) c.keep_there.ensures (subst (λ bs. AreAsleep (λ u b s. sleeps u b s) c.args.sockets.now.terms bs c.args.sockets.now.slots.items) (sym c.put_at_once.ensures) (marked_set (λ u b s. sleeps u b s) c.args.sockets.now.terms c.args.sockets.now.bounds c.args.sockets.now.slots.items c.args.i c.args.sockets.now.asleep));
  as_many = ap length c.put_at_once.ensures ∙ length-set c.args.sockets.now.bounds c.args.i at_once ∙ c.args.sockets.now.as_many ∙ sym (changed_len _ c.args.sockets.now.slots.items c.keep_there.new.slots.items c.args.i c.keep_there.ensures);
  kept = unsettled refl;
  as_marked = c.args.sockets.now.as_marked;
  whole = subst (λ n. IsWhole c.args.sockets.now.complete (places_of c.args.sockets.now.index) n) (sym (changed_len _ c.args.sockets.now.slots.items c.keep_there.new.slots.items c.args.i c.keep_there.ensures)) c.args.sockets.now.whole;
}
