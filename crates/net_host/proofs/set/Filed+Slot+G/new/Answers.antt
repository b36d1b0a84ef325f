use Rattle.std.proofs.Common.{◌≡◌, ◌∙◌, ◌/◌, ◌<◌, length, rules, sym, subst, ap, arith}
use Rattle.std.specs.Prelude.{min}
use Rattle.std.specs.List.{All}
use Rattle.std.proofs.lemmas.List.Elements.{All-push, All-weaker}
use Rattle.host_index.specs.Filing.{places_of}
use Rattle.net_host.specs.Filing.{keys_in, keys_of}
use Rattle.net_host.specs.Indexing.{no_keys}
use Rattle.net_host.specs.Slots.{IsFirstFree}
use Rattle.net_host.proofs.Places.{noted_on}
use Rattle.net_host.proofs.set.Filed+Slot+G.new.Goals as goal

pub loop-preserved : goal.loop-preserved
loop-preserved g c = record {
  count = search rules;
  free = subst (All (λ s. IsFirstFree s)) (sym c.in_ok-push.ensures.items) (All-push (λ s. IsFirstFree s) c.loop.slots.items c.free.result c.loop.invariant.free c.free.ensures);
}

pub of_free-requires-clause-free : goal.of_free-requires-clause-free
of_free-requires-clause-free g c = All-weaker (λ s. IsFirstFree s) (λ s. keys_of s ≡ no_keys) (λ s h. ap keys_in h.free) c.loop.slots.items c.loop.invariant.free

pub of_free-requires-clause-noted : goal.of_free-requires-clause-noted
of_free-requires-clause-noted g c = λ k within.
    let room : k / 64 < length c.in_ok-free.free = omega (arith, within, c.loop.invariant.count, c.in_ok-free.ensures.room) in
    noted_on c.in_ok-free.free k room (c.in_ok-free.ensures.marked k room)

pub of_free-requires-clause-as_marked : goal.of_free-requires-clause-as_marked
of_free-requires-clause-as_marked g c = c.clear.ensures.len ∙ c.in_ok-ended.ensures.len ∙ sym c.in_ok-free.ensures.len

pub of_free-requires-clause-places : goal.of_free-requires-clause-places
of_free-requires-clause-places g c =
    let count : c.args.capacity ≡ length c.loop.slots.items = omega (arith, c.loop.auto.counter-end, c.loop-test.false, c.loop.invariant.count) in
    c.in_ok-index.ensures.places ∙ ap (λ n. min n 1073741824) count

pub returns-clause-free : goal.returns-clause-free
returns-clause-free g c = subst (λ v. All (λ s. IsFirstFree s) v.items) (sym c.of_free.ensures.slots) c.loop.invariant.free

pub returns-clause-complete : goal.returns-clause-complete
returns-clause-complete g c = c.of_free.ensures.complete

pub returns-clause-places : goal.returns-clause-places
returns-clause-places g c = ap places_of c.of_free.ensures.index ∙ c.in_ok-index.ensures.places
