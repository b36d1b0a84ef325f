use Rattle.std.proofs.Common.{◌≡◌, ◌<◌, true, false, refl, sym, subst}
use Rattle.std.specs.Prelude.{IfSome, slice_get}
use Rattle.net_host.specs.Turns.{asked_of, is_due}
use Rattle.net_host.proofs.Polls.{asks_there}
use Rattle.net_host.proofs.Unmarked.{keeps_same, keeps_set, set_later}
use Rattle.net_host.proofs.looking.note_at.Goals as goal

pub put_off-requires-clause-asked : goal.put_off-requires-clause-asked
put_off-requires-clause-asked g c = asks_there (g.C.Context.facts c.args.cx.now) c.args.sockets.now.terms.mtu c.asks_at-asked.result.0 (slice_get c.args.sockets.now.slots.items c.args.i) c.requires.mtu
    (subst (λ xs. IfSome (slice_get xs c.args.i) (λ s. c.asks_at-asked.result.0 ≡ asked_of s.guard.phase s.guard.end s.guard.last s.socket (g.C.Context.facts c.args.cx.now))) c.deref.ensures.value c.asks_at-asked.ensures.asked)

pub returns-then-due-clause-due : goal.returns-then-due-clause-due
returns-then-due-clause-due g c = subst (λ r. IfSome (slice_get c.args.sockets.now.slots.items c.args.i) (λ s. r ≡ is_due (g.C.Context.facts c.args.cx.now) s)) c.if-due.true (subst (λ xs. IfSome (slice_get xs c.args.i) (λ s. c.asks_at-asked.result.1 ≡ is_due (g.C.Context.facts c.args.cx.now) s)) c.deref.ensures.value c.asks_at-asked.ensures.due)

pub returns-clause-due : goal.returns-clause-due
returns-clause-due g c = subst (λ r. IfSome (slice_get c.args.sockets.now.slots.items c.args.i) (λ s. r ≡ is_due (g.C.Context.facts c.args.cx.now) s)) c.if-due.false (subst (λ xs. IfSome (slice_get xs c.args.i) (λ s. c.asks_at-asked.result.1 ≡ is_due (g.C.Context.facts c.args.cx.now) s)) c.deref.ensures.value c.asks_at-asked.ensures.due)

pub returns-then-due-clause-bounds : goal.returns-then-due-clause-bounds
returns-then-due-clause-bounds g c = keeps_same c.args.i _ _ refl

pub returns-clause-bounds : goal.returns-clause-bounds
returns-clause-bounds g c = keeps_set c.args.i _ _ _ c.put_off.ensures.bounds

pub returns-clause-later : goal.returns-clause-later
returns-clause-later g c = λ e. set_later c.args.i c.args.sockets.now.bounds c.put_off.new.sockets.bounds _ (subst (λ n. c.args.i < n) (sym c.args.sockets.now.as_many) c.requires.within) c.put_off.ensures.later c.put_off.ensures.bounds
