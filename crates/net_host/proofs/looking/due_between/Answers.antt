use Rattle.std.proofs.Common.{rules, to_z, of_z, w64, ◌≡◌, ◌∙◌, ℕ, ◌<◌, ◌≤◌, length, true, false, refl, ap, subst, arith}
use Rattle.std.specs.Prelude.{IfSome, slice_get, ◌<ℤ◌}
use Rattle.host_bounds.specs.Bounding.{bound_at}
use Rattle.sock_tcp.specs.View.{moment_of}
use Rattle.net_host.specs.Looking.{Astir, MayLook}
use Rattle.net_host.specs.Turns.{Watches}
use Rattle.net_host.specs.Walks.{ChangesAt}
use Rattle.net_host.proofs.Polls.{due_if}
use Rattle.net_host.proofs.Sleepers.{each_len}
use Rattle.net_host.proofs.Telling.{tells_none, tells_then}
use Rattle.net_host.proofs.Unmarked.{after_now, unmarks_all, unmarks_next, unmarks_none}
use Rattle.net_host.proofs.Walking.{begins, ends_quiet, ends_there, goes_on, over_now, passes_to}
use Rattle.net_host.proofs.looking.due_between.Goals as goal

pub next-requires : goal.next-requires
next-requires g c =
    let len : length c.loop-i.sockets.slots.items ≡ length c.args.sockets.now.slots.items = each_len (MayLook c.args.sockets.now.terms.guards (moment_of (g.C.Context.facts c.args.cx.now))) _ _ c.loop-i.invariant.passes.changed in
    let many : length c.loop-i.sockets.bounds ≡ length c.loop-i.sockets.slots.items = c.loop-i.sockets.as_many in
    omega (arith, len, many, c.requires.within)

pub look_at-requires-clause-within : goal.look_at-requires-clause-within
look_at-requires-clause-within g c =
    let len : length c.loop-i.sockets.slots.items ≡ length c.args.sockets.now.slots.items = each_len (MayLook c.args.sockets.now.terms.guards (moment_of (g.C.Context.facts c.args.cx.now))) _ _ c.loop-i.invariant.passes.changed in
    omega (arith, len, c.requires.within, c.in-Some.ensures.within)

pub returns-then-look_at-clause-looked : goal.returns-then-look_at-clause-looked
returns-then-look_at-clause-looked g c =
    let f = g.C.Context.facts c.args.cx.now in
    let st = c.args.sockets.now.terms.guards in
    let now_is : to_z w64 (of_z w64 c.now-now.result.micros) ≡ c.now-now.result.micros = search rules in
    let mtu : c.loop-i.sockets.terms.mtu ≡ f.mtu = ap (λ u. u.mtu) c.loop-i.invariant.terms ∙ c.requires.mtu in
    let more : (k : ℕ) → c.loop-i.from ≤ k → k < c.in-Some.i → IfSome (slice_get c.loop-i.sockets.slots.items k) (λ s. Astir f st s → ⊥) = λ k h l. subst (λ u. IfSome (slice_get c.loop-i.sockets.slots.items k) (λ s. Astir f u.guards s → ⊥)) c.loop-i.invariant.terms (over_now f c.loop-i.sockets.terms c.loop-i.sockets.bounds c.loop-i.sockets.slots.items c.now-now.ensures.lawful.0 mtu c.loop-i.sockets.asleep k (subst (λ z. z <ℤ bound_at c.loop-i.sockets.bounds k) (now_is ∙ c.now-now.ensures.value) (c.in-Some.ensures.before k h l))) in
    let looked : ChangesAt (λ b a. Watches st (moment_of f) b a) c.loop-i.sockets.slots.items c.in-Some.i c.look_at.new.sockets.slots.items = subst (λ u. ChangesAt (λ b a. Watches u.guards (moment_of f) b a) c.loop-i.sockets.slots.items c.in-Some.i c.look_at.new.sockets.slots.items) c.loop-i.invariant.terms c.look_at.ensures.looked in
    ends_there f st c.args.start c.args.end c.args.sockets.now.slots.items c.loop-i.from c.loop-i.sockets.slots.items c.loop-i.invariant.passes c.in-Some.i c.look_at.new.sockets.slots.items c.in-Some.ensures.behind looked c.in-Some.ensures.within
    (passes_to f st c.args.start c.args.end c.args.sockets.now.slots.items c.loop-i.from c.loop-i.sockets.slots.items c.loop-i.invariant.passes c.in-Some.i more)
    (due_if f (slice_get c.look_at.new.sockets.slots.items c.in-Some.i) c.look_at.result true c.if-look_at.true c.look_at.ensures.due)

pub loop-i-preserved : goal.loop-i-preserved
loop-i-preserved g c =
    let f = g.C.Context.facts c.args.cx.now in
    let st = c.args.sockets.now.terms.guards in
    let now_is : to_z w64 (of_z w64 c.now-now.result.micros) ≡ c.now-now.result.micros = search rules in
    let mtu : c.loop-i.sockets.terms.mtu ≡ f.mtu = ap (λ u. u.mtu) c.loop-i.invariant.terms ∙ c.requires.mtu in
    let more : (k : ℕ) → c.loop-i.from ≤ k → k < c.in-Some.i → IfSome (slice_get c.loop-i.sockets.slots.items k) (λ s. Astir f st s → ⊥) = λ k h l. subst (λ u. IfSome (slice_get c.loop-i.sockets.slots.items k) (λ s. Astir f u.guards s → ⊥)) c.loop-i.invariant.terms (over_now f c.loop-i.sockets.terms c.loop-i.sockets.bounds c.loop-i.sockets.slots.items c.now-now.ensures.lawful.0 mtu c.loop-i.sockets.asleep k (subst (λ z. z <ℤ bound_at c.loop-i.sockets.bounds k) (now_is ∙ c.now-now.ensures.value) (c.in-Some.ensures.before k h l))) in
    let looked : ChangesAt (λ b a. Watches st (moment_of f) b a) c.loop-i.sockets.slots.items c.in-Some.i c.look_at.new.sockets.slots.items = subst (λ u. ChangesAt (λ b a. Watches u.guards (moment_of f) b a) c.loop-i.sockets.slots.items c.in-Some.i c.look_at.new.sockets.slots.items) c.loop-i.invariant.terms c.look_at.ensures.looked in
    record {
      terms = c.look_at.ensures.terms ∙ c.loop-i.invariant.terms;
      passes = goes_on f st c.args.start c.args.end c.args.sockets.now.slots.items c.loop-i.from c.loop-i.sockets.slots.items c.loop-i.invariant.passes c.in-Some.i c.look_at.new.sockets.slots.items c.in-Some.ensures.behind looked c.in-Some.ensures.within
          (passes_to f st c.args.start c.args.end c.args.sockets.now.slots.items c.loop-i.from c.loop-i.sockets.slots.items c.loop-i.invariant.passes c.in-Some.i more)
          (due_if f (slice_get c.look_at.new.sockets.slots.items c.in-Some.i) c.look_at.result false c.if-look_at.false c.look_at.ensures.due);
      ends = tells_then _ _ _ _ _ _ c.loop-i.invariant.ends c.look_at.ensures.ends;
      unmarked = unmarks_next c.args.start c.loop-i.from c.args.sockets.now.bounds c.loop-i.sockets.bounds c.loop-i.invariant.unmarked c.in-Some.i c.look_at.new.sockets.bounds c.loop-i.invariant.passes.order c.in-Some.ensures.behind
          (λ k h l. after_now f.now (bound_at c.loop-i.sockets.bounds k) c.now-now.ensures.lawful.0 (subst (λ z. z <ℤ bound_at c.loop-i.sockets.bounds k) (now_is ∙ c.now-now.ensures.value) (c.in-Some.ensures.before k h l)))
          c.look_at.ensures.bounds (c.look_at.ensures.later c.if-look_at.false);
    }

pub returns-clause-unmarked : goal.returns-clause-unmarked
returns-clause-unmarked g c =
    let now_is : to_z w64 (of_z w64 c.now-now.result.micros) ≡ c.now-now.result.micros = search rules in
    λ e. unmarks_all c.args.start c.loop-i.from c.args.sockets.now.bounds c.loop-i.sockets.bounds c.loop-i.invariant.unmarked c.args.end c.loop-i.invariant.passes.order c.loop-i.invariant.passes.limit
    (λ k h l. after_now (g.C.Context.facts c.args.cx.now).now (bound_at c.loop-i.sockets.bounds k) c.now-now.ensures.lawful.0 (subst (λ z. z <ℤ bound_at c.loop-i.sockets.bounds k) (now_is ∙ c.now-now.ensures.value) (c.in_default.ensures k h l)))

pub returns-clause-looked : goal.returns-clause-looked
returns-clause-looked g c =
    let f = g.C.Context.facts c.args.cx.now in
    let st = c.args.sockets.now.terms.guards in
    let now_is : to_z w64 (of_z w64 c.now-now.result.micros) ≡ c.now-now.result.micros = search rules in
    let mtu : c.loop-i.sockets.terms.mtu ≡ f.mtu = ap (λ u. u.mtu) c.loop-i.invariant.terms ∙ c.requires.mtu in
    ends_quiet f st c.args.start c.args.end c.args.sockets.now.slots.items c.loop-i.from c.loop-i.sockets.slots.items c.loop-i.invariant.passes
    (λ k h l. subst (λ u. IfSome (slice_get c.loop-i.sockets.slots.items k) (λ s. Astir f u.guards s → ⊥)) c.loop-i.invariant.terms (over_now f c.loop-i.sockets.terms c.loop-i.sockets.bounds c.loop-i.sockets.slots.items c.now-now.ensures.lawful.0 mtu c.loop-i.sockets.asleep k (subst (λ z. z <ℤ bound_at c.loop-i.sockets.bounds k) (now_is ∙ c.now-now.ensures.value) (c.in_default.ensures k h l))))

pub returns-then-look_at-clause-ends : goal.returns-then-look_at-clause-ends
returns-then-look_at-clause-ends g c = tells_then _ _ _ _ _ _ c.loop-i.invariant.ends c.look_at.ensures.ends

pub loop-i-init : goal.loop-i-init
loop-i-init g c = record { terms = refl; passes = begins _ _ _ _ _; ends = tells_none _ _ _ _ refl refl; unmarked = unmarks_none _ _ }
