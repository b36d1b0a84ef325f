use Rattle.std.proofs.Common.{rules, ◌≡◌, ◌≤◌, length, sym, subst}
use Rattle.std.proofs.lemmas.List.{set_past}
use Rattle.host_bounds.proofs.bounds.Bounds.set.Goals as goal

pub returns-else-place-len : goal.returns-else-place-len
returns-else-place-len c =
    let is : c.len.result ≡ length c.args.self.now = search rules in
    let beyond : length c.args.self.now ≤ c.args.place = subst (λ n. n ≤ c.args.place) is c.if-place-len.false in
    sym (set_past c.args.self.now c.args.place c.args.bound beyond)
