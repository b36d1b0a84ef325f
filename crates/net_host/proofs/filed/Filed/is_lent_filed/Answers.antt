use Rattle.std.proofs.Common.{◌≡◌, true, false, subst}
use Rattle.std.specs.Prelude.{IfSome, slice_get}
use Rattle.net_host.specs.Indexing.{IsIndexed, are_filed}
use Rattle.net_host.proofs.Places.{all_settled}
use Rattle.net_host.proofs.filed.Filed.is_lent_filed.Goals as goal

pub returns-in-Some : goal.returns-in-Some
returns-in-Some g c = λ yes. all_settled g.T.Keyed.keys_of c.args.self.now.complete c.in-Some.place c.args.self.now.slots.items c.args.self.now.index.entries c.args.self.now.free
    (subst (λ xs. IfSome (slice_get xs c.in-Some.place) (λ s. (are_filed c.args.self.now.index.entries c.in-Some.place (g.T.Keyed.keys_of s) ≡ true) × ((g.T.Keyed.keys_of s).free ≡ false))) c.deref.ensures.value (c.is_filed_at.ensures yes))
    (subst (λ l. IsIndexed g.T.Keyed.keys_of c.args.self.now.complete l c.args.self.now.slots.items c.args.self.now.index.entries c.args.self.now.free) c.in-Some.is c.args.self.now.indexed)

pub returns-in-None : goal.returns-in-None
returns-in-None g c = λ yes. subst (λ l. IsIndexed g.T.Keyed.keys_of c.args.self.now.complete l c.args.self.now.slots.items c.args.self.now.index.entries c.args.self.now.free) c.in-None.is c.args.self.now.indexed
