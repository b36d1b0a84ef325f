use Rattle.std.proofs.Common.{◌≡◌, ◌∙◌, ◌≤◌, length, true, sym, subst}
use Rattle.std.specs.Prelude.{slice_get}
use Rattle.net_host.specs.Indexing.{IsIndexed, IsSettled, is_filed, is_noted_of}
use Rattle.host_index.specs.Filing.{places_of}
use Rattle.net_host.proofs.Wholes.{none_filed, one_filed, still_whole}
use Rattle.net_host.proofs.Places.{lent_room, settled}
use Rattle.net_host.proofs.filed.Filed.file_anew.Goals as goal

pub refile_at-filed-requires : goal.refile_at-filed-requires
refile_at-filed-requires g c = lent_room g.T.Keyed.keys_of c.args.self.now.complete c.args.self.now.lent c.in-Some.place c.args.self.now.slots.items c.args.self.now.index.entries c.args.self.now.free c.in-Some.is c.args.self.now.indexed

pub invariant_of-self : goal.invariant_of-self
invariant_of-self g c =
    let now : IsSettled g.T.Keyed.keys_of c.both-self.result c.args.self.now.slots.items c.refile_at-filed.new.index.entries c.refile_at-filed.new.free = subst (λ b. IsSettled g.T.Keyed.keys_of b c.args.self.now.slots.items c.refile_at-filed.new.index.entries c.refile_at-filed.new.free) (sym c.both-self.ensures)
    (settled g.T.Keyed.keys_of c.args.self.now.complete c.refile_at-filed.result c.in-Some.place c.args.self.now.slots.items c.args.self.now.index.entries c.refile_at-filed.new.index.entries c.args.self.now.free c.refile_at-filed.new.free
    (subst (λ l. IsIndexed g.T.Keyed.keys_of c.args.self.now.complete l c.args.self.now.slots.items c.args.self.now.index.entries c.args.self.now.free) c.in-Some.is c.args.self.now.indexed)
    c.refile_at-filed.ensures.others
    (subst (λ xs. c.refile_at-filed.result ≡ true → is_filed g.T.Keyed.keys_of c.refile_at-filed.new.index.entries c.in-Some.place (slice_get xs c.in-Some.place) ≡ true) c.deref.ensures.value c.refile_at-filed.ensures.filed)
    c.refile_at-filed.ensures.marks
    (subst (λ xs. is_noted_of g.T.Keyed.keys_of c.refile_at-filed.new.free c.in-Some.place (slice_get xs c.in-Some.place) ≡ true) c.deref.ensures.value c.refile_at-filed.ensures.noted)) in
    record { indexed = now; asleep = c.args.self.now.asleep; as_many = c.args.self.now.as_many; kept = λ e. now; as_marked = c.args.self.now.as_marked ∙ sym c.refile_at-filed.ensures.marks.len; whole = still_whole c.args.self.now.slots.items c.args.self.now.complete c.refile_at-filed.result c.both-self.result c.args.self.now.index c.refile_at-filed.new.index c.both-self.ensures c.refile_at-filed.ensures.memory (subst (λ xs. length xs ≤ places_of c.args.self.now.index → c.refile_at-filed.result ≡ true) c.deref.ensures.value c.refile_at-filed.ensures.whole) c.args.self.now.whole }

pub returns-in_default-clause-settled : goal.returns-in_default-clause-settled
returns-in_default-clause-settled g c = subst (λ l. IsIndexed g.T.Keyed.keys_of c.args.self.now.complete l c.args.self.now.slots.items c.args.self.now.index.entries c.args.self.now.free) c.in_default.is c.args.self.now.indexed

pub returns-in-Some-clause-whole : goal.returns-in-Some-clause-whole
returns-in-Some-clause-whole g c = one_filed c.args.self.now.slots.items c.args.self.now.complete c.refile_at-filed.result c.both-self.result c.args.self.now.index c.refile_at-filed.new.index c.both-self.ensures c.refile_at-filed.ensures.memory
    (subst (λ xs. length xs ≤ places_of c.args.self.now.index → c.refile_at-filed.result ≡ true) c.deref.ensures.value c.refile_at-filed.ensures.whole)

pub returns-in_default-clause-whole : goal.returns-in_default-clause-whole
returns-in_default-clause-whole g c = none_filed c.args.self.now.slots.items c.args.self.now.complete c.args.self.now.index
