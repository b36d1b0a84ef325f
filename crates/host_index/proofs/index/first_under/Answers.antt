use Rattle.std.proofs.Common.{rules, ◌≡◌, sym}
use Rattle.host_index.proofs.Firsts.{first_of}
use Rattle.host_index.proofs.index.first_under.Goals as goal

pub returns-in-Some : goal.returns-in-Some
returns-in-Some c =
    let there = c.in-Some.ensures.lookup.3 in
    let least : c.args.key.place ≡ 0 = search rules in
    first_of c.args.columns.now c.args.order.now c.args.key c.args.begins c.in-Some.number.now c.place_under.result c.requires.ordered c.requires.begins least there.0 (sym (there.1 0)) c.place_under.ensures
