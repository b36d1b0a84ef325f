use Rattle.std.proofs.Common.{◌≡◌, length, None, false, true, refl, subst}
use Rattle.net_host.specs.Entries.{FindsUnder, IsNextUnder}
use Rattle.net_host.specs.Filing.{raw_key}
use Rattle.net_host.specs.Unreachable.{TakesRaw}
use Rattle.net_host.proofs.Jumps.{found_there, not_found, nowhere}
use Rattle.net_host.proofs.KeptKeys.{not_raw}
use Rattle.net_host.proofs.unreachable.listed_raw.Goals as goal

no_truth : false ≡ true → ⊥
no_truth e = cc

pub returns-then-takes_raw_at : goal.returns-then-takes_raw_at
returns-then-takes_raw_at g c =
    let next : IsNextUnder c.args.index.now.entries raw_key c.loop-i.from (length c.args.slots.now) c.in-Some.i = subst (λ key. IsNextUnder c.args.index.now.entries key c.loop-i.from (length c.args.slots.now) c.in-Some.i) c.raw_key-key.ensures.value c.in-Some.ensures in
    found_there (TakesRaw c.args.ip.now) c.args.slots.now c.loop-i.from c.loop-i.invariant c.in-Some.i
    (λ k h l. not_raw c.args.slots.now c.args.index.now.entries c.requires c.args.ip.now k (next.before k h l))
    (c.if-takes_raw_at.ensures.0 refl)

pub loop-i-preserved : goal.loop-i-preserved
loop-i-preserved g c =
    let next : IsNextUnder c.args.index.now.entries raw_key c.loop-i.from (length c.args.slots.now) c.in-Some.i = subst (λ key. IsNextUnder c.args.index.now.entries key c.loop-i.from (length c.args.slots.now) c.in-Some.i) c.raw_key-key.ensures.value c.in-Some.ensures in
    not_found (TakesRaw c.args.ip.now) c.args.slots.now c.loop-i.from c.loop-i.invariant c.in-Some.i
    (λ k h l. not_raw c.args.slots.now c.args.index.now.entries c.requires c.args.ip.now k (next.before k h l))
    (λ at. no_truth (c.if-takes_raw_at.ensures.1 at))

pub returns : goal.returns
returns g c =
    let none : FindsUnder c.args.index.now.entries raw_key c.loop-i.from (length c.args.slots.now) None = subst (λ key. FindsUnder c.args.index.now.entries key c.loop-i.from (length c.args.slots.now) None) c.raw_key-key.ensures.value c.in_default.ensures in
    nowhere (TakesRaw c.args.ip.now) c.args.slots.now c.loop-i.from c.loop-i.invariant (length c.args.slots.now)
    (λ k h l. not_raw c.args.slots.now c.args.index.now.entries c.requires c.args.ip.now k (none k h l))
    refl
