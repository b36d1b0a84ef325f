use Rattle.std.proofs.Common.{rules, ◌≡◌, false, true, nat_eq, subst}
use Rattle.net_host.specs.Slots.{IsFree}
use Rattle.net_host.specs.Walks.{FindsAmong}
use Rattle.net_host.proofs.Vacant.{here_alone, here_or_before, not_here}
use Rattle.net_host.proofs.set.sooner.Goals as goal

no_truth : false ≡ true → ⊥
no_truth e = cc

pub returns-then-not-is_free_at : goal.returns-then-not-is_free_at
returns-then-not-is_free_at g c =
    let full : c.is_free_at.result ≡ false = search rules in
    not_here (λ s. IsFree s) c.args.slots.now c.args.place (λ at. no_truth (subst (λ b. b ≡ true) full (c.is_free_at.ensures.1 at))) c.args.found c.requires

pub returns-in-Some : goal.returns-in-Some
returns-in-Some g c =
    let free : c.is_free_at.result ≡ true = search rules in
    here_or_before (λ s. IsFree s) c.args.slots.now c.args.place (c.is_free_at.ensures.0 free) c.in-Some.i (subst (λ o. FindsAmong (λ k. nat_eq k c.args.place ≡ false) (λ s. IsFree s) c.args.slots.now o) c.in-Some.is c.requires) c.min.result c.min.ensures

pub returns-in-None : goal.returns-in-None
returns-in-None g c =
    let free : c.is_free_at.result ≡ true = search rules in
    here_alone (λ s. IsFree s) c.args.slots.now c.args.place (c.is_free_at.ensures.0 free) (subst (λ o. FindsAmong (λ k. nat_eq k c.args.place ≡ false) (λ s. IsFree s) c.args.slots.now o) c.in-None.is c.requires)
