use Rattle.std.proofs.Common.{rules, ◌≡◌, ◌<◌, ◌/◌, length, sym, subst, arith}
use Rattle.net_host.proofs.Places.{place_room}
use Rattle.net_host.proofs.filed.Filed.ended.Goals as goal

pub returns-then-place-len : goal.returns-then-place-len
returns-then-place-len g c =
    let within : c.next-place.result < length c.args.self.now.slots.items = search rules in
    let room : c.next-place.result / 64 < length c.args.self.now.ended = subst (λ n. c.next-place.result / 64 < n) (sym c.args.self.now.as_marked) (place_room g.T.Keyed.keys_of c.args.self.now.complete c.args.self.now.lent c.next-place.result c.args.self.now.slots.items c.args.self.now.index.entries c.args.self.now.free within c.args.self.now.indexed) in
    record {
      behind = c.next-place.ensures.behind;
      within = within;
      marked = c.next-place.ensures.marked (omega (arith, within)) room;
      before = c.next-place.ensures.before;
    }
