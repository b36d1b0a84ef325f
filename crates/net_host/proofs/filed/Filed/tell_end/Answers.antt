use Rattle.std.proofs.Common.{◌<◌, ◌/◌, sym, subst, ◌∙◌}
use Rattle.net_host.proofs.Places.{place_room}
use Rattle.net_host.proofs.filed.Filed.tell_end.Goals as goal

pub put_on-requires : goal.put_on-requires
put_on-requires g c = subst (λ n. c.args.place / 64 < n) (sym c.args.self.now.as_marked) (place_room g.T.Keyed.keys_of c.args.self.now.complete c.args.self.now.lent c.args.place c.args.self.now.slots.items c.args.self.now.index.entries c.args.self.now.free c.requires c.args.self.now.indexed)
