use Rattle.std.proofs.Common.{rules, ◌*◌, ◌≡◌, ◌∙◌, ◌<◌, ◌≤◌, true, length, get_or, ap, refl, arith, subst, sym}
use Rattle.std.specs.List.{insert}
use Rattle.host_index.specs.Columns.{Puts, entry_in, number_of}
use Rattle.host_index.specs.Entries.{Keeps, Splits, has, nothing, rank}
use Rattle.host_index.specs.Filing.{HasPlaceFor, IsSecondOf, SameMemory}
use Rattle.host_index.proofs.Rooms.{in_all, no_second, room_left}
use Rattle.std.specs.Prelude.{vec_capacity, vec_len}
use Rattle.host_index.specs.Indexing.{entries_in, number_at}
use Rattle.host_index.specs.Known.{AreFirst}
use Rattle.host_index.proofs.Entered.{insert_keeps, inserted}
use Rattle.host_index.proofs.Firsts.{added_first}
use Rattle.host_index.proofs.Numbers.{added, as_many, entries_now, entry_of, least_splits}
use Rattle.host_index.proofs.index.Index.put_at.Goals as goal

module _ (c : goal.After-is_ok) where
  begins : Splits (entries_in c.self.inside.columns c.self.inside.order.items) (rank c.args.entry) c.args.place
  begins = subst (λ l. Splits l (rank c.args.entry) c.args.place) (sym (ap (λ v. v.entries) c.self.view_is)) c.requires

  puts : Puts (number_of c.args.which c.args.entry.place) c.args.entry c.self.inside.columns c.put.new.self
  puts = search rules

  behind : c.args.place < length c.self.inside.order.items → rank c.args.entry < rank (entry_in c.self.inside.columns (number_at c.self.inside.order.items c.args.place))
  behind there =
      let inside : c.args.place < length (entries_in c.self.inside.columns c.self.inside.order.items) = subst (λ n. c.args.place < n) (sym (as_many c.self.inside.columns c.self.inside.order.items)) there in
      let within : c.args.place < length c.args.self.now.entries = subst (λ l. c.args.place < length l) (ap (λ v. v.entries) c.self.view_is) inside in
      let less : rank c.args.entry < rank (get_or c.args.self.now.entries c.args.place nothing) = c.if-stands_at.ensures.behind refl within in
      subst (λ e. rank c.args.entry < rank e) (ap (λ l. get_or l c.args.place nothing) (sym (ap (λ v. v.entries) c.self.view_is)) ∙ entry_of c.self.inside.columns c.self.inside.order.items c.args.place there) less

  inside : c.args.place ≤ length c.self.inside.order.items
  inside = subst (λ m. c.args.place ≤ m) (as_many c.self.inside.columns c.self.inside.order.items) begins.within

  items : c.insert.new.self.items ≡ insert c.self.inside.order.items c.args.place (number_of c.args.which c.args.entry.place)
  items = search rules

  now : entries_in c.put.new.self c.insert.new.self.items ≡ insert (entries_in c.self.inside.columns c.self.inside.order.items) c.args.place c.args.entry
  now = entries_now c.self.inside.columns c.put.new.self c.self.inside.order.items c.args.place (number_of c.args.which c.args.entry.place) c.args.entry c.self.invariant.index puts begins behind c.insert.new.self.items items

pub invariant_of-self-2 : goal.invariant_of-self-2
invariant_of-self-2 c = record {
  room_for_all = omega (arith, c.self.invariant.room_for_all, (puts c).len, c.insert.ensures.capacity);
  index = added c.self.inside.columns c.put.new.self c.self.inside.order.items c.args.place (number_of c.args.which c.args.entry.place) c.args.entry c.self.invariant.index (puts c) (begins c) (behind c) c.insert.new.self.items (items c);
  begins = subst (λ key. Splits (entries_in c.put.new.self c.insert.new.self.items) (rank key) 0) (sym c.least_key-self-inside.ensures) (least_splits (entries_in c.put.new.self c.insert.new.self.items));
  firsts = subst (AreFirst c.put.new.self c.insert.new.self.items) (sym c.forget.ensures.put) (added_first c.self.inside.columns c.put.new.self c.self.inside.order.items c.self.inside.known.places.items c.self.invariant.firsts c.args.place (number_of c.args.which c.args.entry.place) c.args.entry (puts c) (inside c) c.insert.new.self.items (now c));
}

pub returns-clause-added : goal.returns-clause-added
returns-clause-added c = λ h. subst (λ l. has l c.args.entry ≡ true) (sym (now c)) (inserted (entries_in c.self.inside.columns c.self.inside.order.items) c.args.entry c.args.place (begins c))

pub returns-clause-kept : goal.returns-clause-kept
returns-clause-kept c = subst (λ l. Keeps l (entries_in c.put.new.self c.insert.new.self.items)) (ap (λ v. v.entries) c.self.view_is) (subst (Keeps (entries_in c.self.inside.columns c.self.inside.order.items)) (sym (now c)) (insert_keeps (entries_in c.self.inside.columns c.self.inside.order.items) c.args.entry c.args.place (begins c)))

pub returns-clause-memory : goal.returns-clause-memory
returns-clause-memory c =
    let room : vec_len c.self.inside.order < vec_capacity c.self.inside.order = omega (arith, c.if-len-capacity.false, c.len.ensures, c.capacity.ensures) in
    let block = c.insert.ensures.in_place room in
    subst (λ v. SameMemory v (record { entries = entries_in c.put.new.self c.insert.new.self.items; order = c.insert.new.self.items; columns = c.put.new.self; room = vec_capacity c.insert.new.self; firsts = vec_capacity c.forget.new.self.places })) c.self.view_is (record { room = block.1.0; firsts = c.forget.ensures.memory; columns = (puts c).memory })

pub returns-then-len-capacity-clause-done : goal.returns-then-len-capacity-clause-done
returns-then-len-capacity-clause-done c = λ h.
    let has : HasPlaceFor (record { entries = entries_in c.self.inside.columns c.self.inside.order.items; order = c.self.inside.order.items; columns = c.self.inside.columns; room = vec_capacity c.self.inside.order; firsts = vec_capacity c.self.inside.known.places }) c.args.which c.args.entry = subst (λ v. HasPlaceFor v c.args.which c.args.entry) (sym c.self.view_is) h in
    let left : length c.self.inside.order.items < 2 * length c.self.inside.columns.majors.items = room_left c.self.inside.columns c.self.inside.order.items (number_of c.args.which c.args.entry.place) c.self.invariant.index (in_all c.args.which c.args.entry.place (length c.self.inside.columns.majors.items) has.within) has.free in
    let len : length c.self.inside.order.items ≡ vec_len c.self.inside.order = sym c.self.inside.order.ok.0 in
    absurd (omega (arith, left, len, c.self.invariant.room_for_all, c.if-len-capacity.true, c.len.ensures, c.capacity.ensures))

pub returns-then-stands_at-clause-done : goal.returns-then-stands_at-clause-done
returns-then-stands_at-clause-done c = λ h.
    let has : HasPlaceFor (record { entries = entries_in c.self.inside.columns c.self.inside.order.items; order = c.self.inside.order.items; columns = c.self.inside.columns; room = vec_capacity c.self.inside.order; firsts = vec_capacity c.self.inside.known.places }) c.args.which c.args.entry = subst (λ v. HasPlaceFor v c.args.which c.args.entry) (sym c.self.view_is) h in
    let second : IsSecondOf (record { entries = entries_in c.self.inside.columns c.self.inside.order.items; order = c.self.inside.order.items; columns = c.self.inside.columns; room = vec_capacity c.self.inside.order; firsts = vec_capacity c.self.inside.known.places }) c.args.place c.args.entry = subst (λ v. IsSecondOf v c.args.place c.args.entry) (sym c.self.view_is) (c.if-stands_at.ensures.same refl) in
    absurd (no_second c.self.inside.columns c.self.inside.order.items (vec_capacity c.self.inside.order) (vec_capacity c.self.inside.known.places) c.args.place c.args.which c.args.entry c.self.invariant.index has second)

pub returns-clause-done : goal.returns-clause-done
returns-clause-done c = λ h.
    let room : vec_len c.self.inside.order < vec_capacity c.self.inside.order = omega (arith, c.if-len-capacity.false, c.len.ensures, c.capacity.ensures) in
    c.is_ok.ensures.value ∙ c.insert.ensures.succeeds room
