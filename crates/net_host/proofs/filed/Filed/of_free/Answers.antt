use Rattle.std.proofs.Common.{refl}
use Rattle.net_host.proofs.Places.{nothing_indexed}
use Rattle.net_host.proofs.Sleepers.{all_marked}
use Rattle.net_host.proofs.filed.Filed.of_free.Goals as goal

pub invariant_of-result : goal.invariant_of-result
invariant_of-result g c = record {
  indexed = nothing_indexed g.T.Keyed.keys_of c.args.slots.items c.args.index.entries c.args.free c.requires.free c.requires.noted;
  asleep = all_marked g.T.Keyed.sleeps _ c.args.bounds c.args.slots.items c.requires.marked;
  as_many = c.requires.as_many;
  kept = λ e. nothing_indexed g.T.Keyed.keys_of c.args.slots.items c.args.index.entries c.args.free c.requires.free c.requires.noted;
  as_marked = c.requires.as_marked;
  whole = record { places_for = c.requires.places; whole = λ few. refl };
}
