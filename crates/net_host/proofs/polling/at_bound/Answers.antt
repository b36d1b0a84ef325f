use Rattle.std.proofs.Common.{rules, ◌≡◌, ◌∙◌, true, sym, subst, to_z, of_z, w64}
use Rattle.std.specs.Prelude.{IfSome, slice_get}
use Rattle.net_host.specs.Looking.{is_at_most}
use Rattle.net_host.specs.Turns.{slot_poll}
use Rattle.net_host.proofs.Firsts.{is_earliest}
use Rattle.net_host.proofs.polling.at_bound.Goals as goal

pub returns-then-is_at_most : goal.returns-then-is_at_most
returns-then-is_at_most g c =
    let same : to_z w64 (of_z w64 c.args.least) ≡ c.args.least = search rules in
    let most : is_at_most c.poll_there-poll.result c.args.least ≡ true = subst (λ m. is_at_most c.poll_there-poll.result m ≡ true) same (sym c.is_at_most.ensures ∙ c.if-is_at_most.true) in
    is_earliest (g.C.Context.facts c.args.cx.now) c.args.sockets.now.terms c.args.sockets.now.bounds c.args.sockets.now.slots.items c.poll_there-poll.result c.args.least c.args.i c.requires.mtu c.requires.clear most c.requires.least c.args.sockets.now.as_many c.args.sockets.now.asleep c.requires.within
    (subst (λ xs. IfSome (slice_get xs c.args.i) (λ s. c.poll_there-poll.result ≡ slot_poll s (g.C.Context.facts c.args.cx.now))) c.deref.ensures.value c.poll_there-poll.ensures)
