use Rattle.std.proofs.Common.{◌≡◌, ◌*◌, ◌≤◌, length, ap, arith, subst, sym}
use Rattle.std.specs.Prelude.{vec_capacity}
use Rattle.host_index.specs.Entries.{Splits, rank}
use Rattle.host_index.specs.Indexing.{IsIndex, entries_in}
use Rattle.host_index.specs.Known.{AreFirst}
use Rattle.host_index.proofs.Numbers.{least_splits}
use Rattle.host_index.proofs.Rooms.{none_first, nothing_filed}
use Rattle.host_index.proofs.index.Index.new.Goals as goal

pub invariant_of-result : goal.invariant_of-result
invariant_of-result c = record {
  index = subst (IsIndex c.in_ok-columns.columns) (sym c.in_ok-order.ensures.items) (nothing_filed c.in_ok-columns.columns c.in_ok-columns.ensures.as_many c.in_ok-columns.ensures.free);
  begins = subst (λ key. Splits (entries_in c.in_ok-columns.columns c.in_ok-order.order.items) (rank key) 0) (sym c.least_key.ensures) (least_splits (entries_in c.in_ok-columns.columns c.in_ok-order.order.items));
  firsts = subst (λ os. AreFirst c.in_ok-columns.columns os c.in_ok-new.field-0.places.items) (sym c.in_ok-order.ensures.items) (none_first c.in_ok-columns.columns c.in_ok-new.field-0.places.items);
  room_for_all = omega (arith, c.in_ok-order.ensures.exact, c.saturating_mul.ensures, c.len.ensures, c.in_ok-columns.ensures.as_many.few);
}
