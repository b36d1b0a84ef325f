use Rattle.std.proofs.Common.{rules, to_z, of_z, w64, ◌≡◌, ◌∙◌, ◌<◌, min, length, Some, refl, sym, subst, arith}
use Rattle.std.specs.Prelude.{◌<ℤ◌}
use Rattle.host_bounds.specs.Bounding.{bound_at}
use Rattle.sock_tcp.specs.View.{moment_of}
use Rattle.net_host.specs.Looking.{Astir, LooksIn, MayLook}
use Rattle.net_host.specs.Touching.{UnmarksIn}
use Rattle.net_host.proofs.Sleepers.{each_len}
use Rattle.net_host.proofs.Telling.{tells_none, tells_then}
use Rattle.net_host.proofs.Turning.{first_found}
use Rattle.net_host.proofs.Unmarked.{after_now, all_unmarked}
use Rattle.net_host.proofs.Walking.{all_rest, over_now, second_goes}
use Rattle.net_host.proofs.looking.next_due.Goals as goal

pub due_between-requires-in-None-clause-within : goal.due_between-requires-in-None-clause-within
due_between-requires-in-None-clause-within g c =
    let len : length c.due_between.new.sockets.slots.items ≡ length c.args.sockets.now.slots.items = each_len (MayLook c.args.sockets.now.terms.guards (moment_of (g.C.Context.facts c.args.cx.now))) _ _ c.due_between.ensures.looked.changed in
    let least : c.min-start.result ≡ min c.args.turn (length c.args.sockets.now.slots.items) = search rules in
    omega (arith, len, least)

pub returns-in-None-clause-looked : goal.returns-in-None-clause-looked
returns-in-None-clause-looked g c =
    let st = c.args.sockets.now.terms.guards in
    let least : c.min-start.result ≡ min c.args.turn (length c.args.sockets.now.slots.items) = search rules in
    let many : c.len-count.result ≡ length c.args.sockets.now.slots.items = search rules in
    second_goes (g.C.Context.facts c.args.cx.now) st c.args.turn c.min-start.result c.args.sockets.now.slots.items c.due_between.new.sockets.slots.items c.due_between-in-None.new.sockets.slots.items least c.due_between-in-None.result
    (subst (λ n. LooksIn (g.C.Context.facts c.args.cx.now) st c.min-start.result n c.args.sockets.now.slots.items _ c.due_between.new.sockets.slots.items) many c.in-None.ensures.looked)
    (subst (λ t. LooksIn (g.C.Context.facts c.args.cx.now) t.guards 0 c.min-start.result c.due_between.new.sockets.slots.items c.due_between-in-None.result c.due_between-in-None.new.sockets.slots.items) c.due_between.ensures.terms c.due_between-in-None.ensures.looked)

pub returns-then-are_after-clause-looked : goal.returns-then-are_after-clause-looked
returns-then-are_after-clause-looked g c =
    let now_is : to_z w64 (of_z w64 c.now.result.micros) ≡ c.now.result.micros = search rules in
    all_rest (g.C.Context.facts c.args.cx.now) c.args.sockets.now.terms.guards c.args.turn c.args.sockets.now.slots.items
    (λ k l. over_now (g.C.Context.facts c.args.cx.now) c.args.sockets.now.terms c.args.sockets.now.bounds c.args.sockets.now.slots.items c.now.ensures.lawful.0 c.requires c.args.sockets.now.asleep k
    (subst (λ z. z <ℤ bound_at c.args.sockets.now.bounds k) (now_is ∙ c.now.ensures.value) (c.are_after.ensures c.if-are_after.true k (subst (λ n. k < n) (sym c.args.sockets.now.as_many) l))))

pub returns-in-None-clause-ends : goal.returns-in-None-clause-ends
returns-in-None-clause-ends g c = tells_then _ _ _ _ _ _ c.due_between.ensures.ends c.due_between-in-None.ensures.ends

pub returns-then-are_after-clause-ends : goal.returns-then-are_after-clause-ends
returns-then-are_after-clause-ends g c = tells_none _ _ _ _ refl refl

pub returns-in-None-clause-unmarked : goal.returns-in-None-clause-unmarked
returns-in-None-clause-unmarked g c =
    let many : c.len-count.result ≡ length c.args.sockets.now.slots.items = search rules in
    λ e. all_unmarked c.min-start.result (length c.args.sockets.now.slots.items) c.args.sockets.now.bounds c.due_between.new.sockets.bounds c.due_between-in-None.new.sockets.bounds
    (subst (λ n. UnmarksIn c.min-start.result n c.args.sockets.now.bounds c.due_between.new.sockets.bounds) many (c.in-None.ensures.unmarked refl))
    (c.due_between-in-None.ensures.unmarked e) c.args.sockets.now.as_many

pub returns-then-are_after-clause-unmarked : goal.returns-then-are_after-clause-unmarked
returns-then-are_after-clause-unmarked g c =
    let now_is : to_z w64 (of_z w64 c.now.result.micros) ≡ c.now.result.micros = search rules in
    λ e k l. after_now (g.C.Context.facts c.args.cx.now).now (bound_at c.args.sockets.now.bounds k) c.now.ensures.lawful.0
    (subst (λ z. z <ℤ bound_at c.args.sockets.now.bounds k) (now_is ∙ c.now.ensures.value) (c.are_after.ensures c.if-are_after.true k l))

pub returns-in-Some-clause-looked : goal.returns-in-Some-clause-looked
returns-in-Some-clause-looked g c =
    let f = g.C.Context.facts c.args.cx.now in
    let st = c.args.sockets.now.terms.guards in
    let looked : LooksIn f st c.min-start.result c.len-count.result c.args.sockets.now.slots.items (Some c.in-Some.i) c.due_between.new.sockets.slots.items = c.in-Some.ensures.looked in
    let len : length c.due_between.new.sockets.slots.items ≡ length c.args.sockets.now.slots.items = each_len (MayLook st (moment_of f)) _ _ looked.changed in
    let least : c.min-start.result ≡ min c.args.turn (length c.args.sockets.now.slots.items) = search rules in
    record {
      changed = looked.changed;
      found = first_found (Astir f st) c.due_between.new.sockets.slots.items c.args.turn c.min-start.result c.in-Some.i (subst (λ n. c.min-start.result ≡ min c.args.turn n) (sym len) least) looked.found.0;
      due = looked.due;
    }
