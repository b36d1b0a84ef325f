use Rattle.std.proofs.Common.{rules, ◌≡◌, true, ap, sym, subst}
use Rattle.std.specs.Prelude.{IfSome, slice_get}
use Rattle.sock_tcp.specs.View.{moment_of}
use Rattle.net_host.specs.Looking.{is_seen}
use Rattle.net_host.specs.Turns.{Watches}
use Rattle.net_host.specs.Walks.{ChangesAt}
use Rattle.net_host.proofs.Telling.{tells_none, tells_then}
use Rattle.net_host.proofs.Unmarked.{keeps_then}
use Rattle.net_host.proofs.looking.look_at.Goals as goal

pub note_at-requires-clause-seen : goal.note_at-requires-clause-seen
note_at-requires-clause-seen g c = subst (λ t. IfSome (slice_get c.watch_unless_idle.new.sockets.slots.items c.args.i) (λ s. is_seen t.guards s ≡ true)) (sym c.watch_unless_idle.ensures.terms) c.watch_unless_idle.ensures.seen

pub returns-clause-looked : goal.returns-clause-looked
returns-clause-looked g c =
    let at : c.now.result ≡ moment_of (g.C.Context.facts c.args.cx.now) = search rules in
    subst (λ xs. ChangesAt (λ b a. Watches c.args.sockets.now.terms.guards (moment_of (g.C.Context.facts c.args.cx.now)) b a) c.args.sockets.now.slots.items c.args.i xs.items) (sym c.note_at.ensures.slots)
    (subst (λ t. ChangesAt (λ b a. Watches c.args.sockets.now.terms.guards t b a) c.args.sockets.now.slots.items c.args.i c.watch_unless_idle.new.sockets.slots.items) at c.watch_unless_idle.ensures.looked)

pub returns-clause-ends : goal.returns-clause-ends
returns-clause-ends g c = tells_then _ _ _ _ _ _ c.watch_unless_idle.ensures.ends (tells_none _ _ _ _ (ap (λ v. v.items) c.note_at.ensures.slots) c.note_at.ensures.ended)

pub returns-clause-bounds : goal.returns-clause-bounds
returns-clause-bounds g c = keeps_then c.args.i _ _ _ c.watch_unless_idle.ensures.bounds c.note_at.ensures.bounds
