use Rattle.std.proofs.Common.{◌≡◌, ◌∙◌, length, sym, ap, subst, rules, to_z, of_z, w64}
use Rattle.std.specs.Prelude.{slice_get}
use Rattle.std.proofs.lemmas.List.{length-set}
use Rattle.net_host.specs.Looking.{bound_of, sleeps}
use Rattle.net_host.specs.Sleeping.{AreAsleep}
use Rattle.net_host.proofs.Polls.{noted}
use Rattle.net_host.proofs.Sleepers.{bound_set}
use Rattle.net_host.proofs.looking.put_off.Goals as goal

pub invariant_of-sockets : goal.invariant_of-sockets
invariant_of-sockets g c =
    let same : to_z w64 (of_z w64 c.bound_of.result) ≡ c.bound_of.result = search rules in
    record {
      indexed = c.args.sockets.now.indexed;
      asleep = subst (λ bs. AreAsleep (λ u b s. sleeps u b s) c.args.sockets.now.terms bs c.args.sockets.now.slots.items) (sym c.set.ensures)
          (bound_set (λ u b s. sleeps u b s) c.args.sockets.now.terms c.args.sockets.now.bounds c.args.sockets.now.slots.items c.args.i (to_z w64 (of_z w64 c.bound_of.result))
          (noted c.args.sockets.now.terms c.args.asked (to_z w64 (of_z w64 c.bound_of.result)) (slice_get c.args.sockets.now.slots.items c.args.i) (same ∙ c.bound_of.ensures.value) c.requires.asked c.requires.seen)
          c.args.sockets.now.asleep);
      as_many = ap length c.set.ensures ∙ length-set c.args.sockets.now.bounds c.args.i (to_z w64 (of_z w64 c.bound_of.result)) ∙ c.args.sockets.now.as_many;
      kept = c.args.sockets.now.kept;
      as_marked = c.args.sockets.now.as_marked;
      whole = c.args.sockets.now.whole;
    }
