use Rattle.std.proofs.Common.{rules, ◌≡◌, true, refl, subst}
use Rattle.std.specs.Prelude.{IfSome, slice_get}
use Rattle.net_host.specs.Looking.{is_seen}
use Rattle.net_host.specs.Turns.{Watches}
use Rattle.net_host.proofs.Polls.{seen_there}
use Rattle.net_host.proofs.Each.{changes_nothing}
use Rattle.net_host.proofs.Telling.{tells_none}
use Rattle.net_host.proofs.Unmarked.{keeps_same, keeps_set}
use Rattle.net_host.proofs.looking.watch_unless_idle.Goals as goal

pub returns-then-not-is_idle_at-clause-seen : goal.returns-then-not-is_idle_at-clause-seen
returns-then-not-is_idle_at-clause-seen g c =
    seen_there c.args.sockets.now.terms.guards c.args.now c.args.sockets.now.slots.items c.watch_at.new.sockets.slots.items c.args.i c.watch_at.ensures.looked

pub returns-else-not-is_idle_at-clause-looked : goal.returns-else-not-is_idle_at-clause-looked
returns-else-not-is_idle_at-clause-looked g c =
    let idle : c.is_idle_at.result ≡ true = search rules in
    let looked : IfSome (slice_get c.args.sockets.now.slots.items c.args.i) (λ s. Watches c.args.sockets.now.terms.guards c.args.now s s) = subst (λ xs. IfSome (slice_get xs c.args.i) (λ s. Watches c.args.sockets.now.terms.guards c.args.now s s)) c.deref.ensures.value (c.is_idle_at.ensures.looked idle) in
    changes_nothing (λ b a. Watches c.args.sockets.now.terms.guards c.args.now b a) c.args.sockets.now.slots.items c.args.i c.requires.within looked

pub returns-else-not-is_idle_at-clause-ends : goal.returns-else-not-is_idle_at-clause-ends
returns-else-not-is_idle_at-clause-ends g c = tells_none _ _ _ _ refl refl

pub returns-then-not-is_idle_at-clause-bounds : goal.returns-then-not-is_idle_at-clause-bounds
returns-then-not-is_idle_at-clause-bounds g c = keeps_set c.args.i _ _ _ c.watch_at.ensures.bounds

pub returns-else-not-is_idle_at-clause-bounds : goal.returns-else-not-is_idle_at-clause-bounds
returns-else-not-is_idle_at-clause-bounds g c = keeps_same c.args.i _ _ refl

pub returns-else-not-is_idle_at-clause-seen : goal.returns-else-not-is_idle_at-clause-seen
returns-else-not-is_idle_at-clause-seen g c = subst (λ ss. IfSome (slice_get ss c.args.i) (λ s. is_seen c.args.sockets.now.terms.guards s ≡ true)) c.deref.ensures.value (c.if-not-is_idle_at.ensures.seen refl)
