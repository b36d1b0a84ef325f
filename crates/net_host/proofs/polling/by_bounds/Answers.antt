use Rattle.std.proofs.Common.{rules, ◌≡◌, ◌<ℤ◌, pos, subst, sym, to_z, of_z, w64, arith}
use Rattle.std.proofs.lemmas.Int.{ints}
use Rattle.host_bounds.specs.Bounding.{at_once}
use Rattle.sock_core.specs.declared.context.PollAt.TheVariants as poll
use Rattle.net_host.specs.Looking.{soonest}
use Rattle.net_host.specs.Speaking.{earliest}
use Rattle.net_host.proofs.Firsts.{comes_at_least}
use Rattle.net_host.proofs.polling.by_bounds.Goals as goal

pub returns-then-least : goal.returns-then-least
returns-then-least g c =
    let same : to_z w64 (of_z w64 c.least-least.result) ≡ c.least-least.result = search rules in
    let mtu : c.args.sockets.now.terms.mtu ≡ (g.C.Context.facts c.args.cx.now).mtu = search rules in
    let clear : soonest <ℤ c.least-least.result = search rules in
    let unmarked : at_once <ℤ c.least-least.result = grind (arith, ints, clear) in
    let soon : c.least-least.result <ℤ pos 9223372036854775806 = search rules in
    let later : (g.C.Context.facts c.args.cx.now).now <ℤ c.least-least.result = search rules in
    subst (λ m. poll.Time (record { micros = m }) ≡ earliest (g.C.Context.facts c.args.cx.now) c.args.sockets.now.slots.items) (sym same)
    (comes_at_least (g.C.Context.facts c.args.cx.now) c.args.sockets.now.terms c.args.sockets.now.bounds c.args.sockets.now.slots.items c.least-least.result mtu clear soon later c.least-least.ensures.below (c.least-least.ensures.greatest unmarked) c.args.sockets.now.as_many c.args.sockets.now.asleep)
