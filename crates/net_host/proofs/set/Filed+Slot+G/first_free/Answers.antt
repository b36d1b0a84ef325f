use Rattle.std.proofs.Common.{◌≡◌, false, nat_eq, subst, sym}
use Rattle.host_bounds.specs.Marking.{bit_of}
use Rattle.net_host.specs.Slots.{IsFree}
use Rattle.net_host.specs.Walks.{FindsAmong}
use Rattle.net_host.proofs.Vacant.{found_all, found_but}
use Rattle.net_host.proofs.set.Filed+Slot+G.first_free.Goals as goal

pub sooner-requires : goal.sooner-requires
sooner-requires g c =
    subst (λ xs. FindsAmong (λ k. nat_eq k c.in-Some.place ≡ false) (λ s. IsFree s) xs c.first_marked-found.result) (sym c.deref-in-Some.ensures.value)
    (found_but c.args.self.now.complete c.args.self.now.slots.items c.args.self.now.index.entries c.args.self.now.free c.args.self.now.lent c.in-Some.place c.in-Some.is c.args.self.now.indexed c.first_marked-found.result
    (subst (λ xs. FindsAmong (λ k. bit_of c.args.self.now.free k ≡ 1) (λ s. IsFree s) xs c.first_marked-found.result) c.deref.ensures.value c.first_marked-found.ensures))

pub returns-in-None : goal.returns-in-None
returns-in-None g c =
    found_all c.args.self.now.complete c.args.self.now.slots.items c.args.self.now.index.entries c.args.self.now.free c.args.self.now.lent c.in-None.is c.args.self.now.indexed c.first_marked-found.result
    (subst (λ xs. FindsAmong (λ k. bit_of c.args.self.now.free k ≡ 1) (λ s. IsFree s) xs c.first_marked-found.result) c.deref.ensures.value c.first_marked-found.ensures)
