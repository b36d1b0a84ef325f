use Rattle.std.proofs.Common.{◌∙◌, sym, subst}
use Rattle.std.specs.Prelude.{IfSome, slice_get}
use Rattle.net_host.specs.Sights.{IsSightOf}
use Rattle.net_host.specs.Turns.{Watches}
use Rattle.net_host.specs.Walks.{ChangesAt}
use Rattle.net_host.proofs.KeptKeys.{ends_not}
use Rattle.net_host.proofs.Telling.{tells_ended, tells_kept}
use Rattle.net_host.proofs.lent_turns.watch_at.Goals as goal

pub returns-then-is_over-clause-ends : goal.returns-then-is_over-clause-ends
returns-then-is_over-clause-ends g c =
    tells_ended c.args.sockets.now.terms.guards c.args.now c.args.sockets.now.slots.items c.watch_lent.new.sockets.slots.items c.args.sockets.now.ended c.watch_lent.new.sockets.ended c.args.i
    (subst (λ st. ChangesAt (λ b a. Watches st c.args.now b a) c.args.sockets.now.slots.items c.args.i c.watch_lent.new.sockets.slots.items) c.settings-guards.ensures c.watch_lent.ensures.looked)
    c.watch_lent.ensures.ended

pub returns-else-is_over-clause-ends : goal.returns-else-is_over-clause-ends
returns-else-is_over-clause-ends g c =
    tells_kept c.args.sockets.now.terms.guards c.args.now c.args.sockets.now.slots.items c.watch_kept.new.sockets.slots.items c.args.sockets.now.ended c.watch_kept.new.sockets.ended c.args.i c.watch_kept.ensures.looked
    (ends_not c.args.sockets.now.terms.guards c.args.now c.sight_at-sight.result (slice_get c.args.sockets.now.slots.items c.args.i) (subst (λ xs. IfSome (slice_get xs c.args.i) (λ s. IsSightOf c.args.sockets.now.terms.guards c.args.now c.sight_at-sight.result s)) c.deref.ensures.value c.sight_at-sight.ensures) (sym c.is_over.ensures ∙ c.if-is_over.false))
    c.watch_kept.ensures.ended
