use Rattle.std.proofs.Common.{◌≡◌, ◌∙◌, ◌<◌, length, get_or, ap, arith, refl, subst, sym}
use Rattle.std.specs.List.{remove}
use Rattle.std.proofs.lemmas.List.{get_or_default}
use Rattle.host_index.specs.Columns.{Frees}
use Rattle.host_index.specs.Entries.{KeepsBut, Splits, nothing, rank}
use Rattle.host_index.specs.Filing.{SameMemory}
use Rattle.std.specs.Prelude.{vec_capacity}
use Rattle.host_index.specs.Indexing.{IsIndex, entries_in, number_at}
use Rattle.host_index.proofs.Entered.{entry_itself, remove_keeps}
use Rattle.host_index.proofs.Firsts.{removed_first}
use Rattle.host_index.proofs.Numbers.{as_many, entries_removed, least_splits, removed}
use Rattle.host_index.proofs.index.Index.take_out.Goals as goal

module _ (c : goal.After-free) where
  within : c.args.place < length c.self.inside.order.items
  within = subst (λ n. c.args.place < n) (as_many c.self.inside.columns c.self.inside.order.items) (subst (λ l. c.args.place < length l) (sym (ap (λ v. v.entries) c.self.view_is)) c.requires)

  is : c.remove-number.result ≡ number_at c.self.inside.order.items c.args.place
  is = c.remove-number.ensures.value ∙ sym (get_or_default c.self.inside.order.items c.args.place 0 c.remove-number.result within)

  frees : Frees (number_at c.self.inside.order.items c.args.place) c.self.inside.columns c.free.new.self
  frees = subst (λ n. Frees n c.self.inside.columns c.free.new.self) is c.free.ensures

  now : entries_in c.free.new.self c.remove-number.new.self.items ≡ remove (entries_in c.self.inside.columns c.self.inside.order.items) c.args.place
  now = ap (entries_in c.free.new.self) c.remove-number.ensures.items ∙ entries_removed c.self.inside.columns c.free.new.self c.self.inside.order.items c.args.place within c.self.invariant.index frees

pub invariant_of-self : goal.invariant_of-self
invariant_of-self c = record {
  room_for_all = omega (arith, c.self.invariant.room_for_all, (frees c).len, c.remove-number.ensures.capacity);
  index = subst (λ l. IsIndex c.free.new.self l) (sym c.remove-number.ensures.items) (removed c.self.inside.columns c.free.new.self c.self.inside.order.items c.args.place (within c) c.self.invariant.index (frees c));
  begins = subst (λ key. Splits (entries_in c.free.new.self c.remove-number.new.self.items) (rank key) 0) (sym c.least_key-self-inside.ensures) (least_splits (entries_in c.free.new.self c.remove-number.new.self.items));
  firsts = removed_first c.self.inside.columns c.free.new.self c.self.inside.order.items c.self.inside.known.places.items c.self.invariant.firsts c.args.place (within c) (frees c) c.remove-number.new.self.items (now c);
}

pub returns-clause-kept : goal.returns-clause-kept
returns-clause-kept c =
    let es = entries_in c.self.inside.columns c.self.inside.order.items in
    let there : c.args.place < length es = subst (λ l. c.args.place < length l) (sym (ap (λ v. v.entries) c.self.view_is)) c.requires in
    let kept : KeepsBut (get_or es c.args.place nothing) es (remove es c.args.place) = remove_keeps es (get_or es c.args.place nothing) (get_or es c.args.place nothing) c.args.place there (get_or_default es c.args.place nothing (get_or es c.args.place nothing) there) (entry_itself (get_or es c.args.place nothing)) in
    subst (λ l. KeepsBut (get_or l c.args.place nothing) l (entries_in c.free.new.self c.remove-number.new.self.items)) (ap (λ v. v.entries) c.self.view_is) (subst (λ m. KeepsBut (get_or es c.args.place nothing) es m) (sym (now c)) kept)

pub returns-clause-memory : goal.returns-clause-memory
returns-clause-memory c = subst (λ v. SameMemory v (record { entries = entries_in c.free.new.self c.remove-number.new.self.items; order = c.remove-number.new.self.items; columns = c.free.new.self; room = vec_capacity c.remove-number.new.self; firsts = vec_capacity c.self.inside.known.places })) c.self.view_is (record { room = c.remove-number.ensures.capacity; firsts = refl; columns = (frees c).memory })
