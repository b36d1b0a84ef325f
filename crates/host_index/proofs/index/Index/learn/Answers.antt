use Rattle.std.proofs.Common.{subst, sym}
use Rattle.std.specs.Prelude.{IfSome}
use Rattle.host_index.specs.Indexing.{IsOrdered}
use Rattle.host_index.specs.Known.{AreFirst, IsFirstIn}
use Rattle.host_index.proofs.Firsts.{learned_more}
use Rattle.host_index.proofs.index.Index.learn.Goals as goal

pub first_under-first-requires-clause-ordered : goal.first_under-first-requires-clause-ordered
first_under-first-requires-clause-ordered c = subst (IsOrdered c.self.inside.columns) (sym c.deref.ensures.value) c.self.invariant.index.ordered

pub invariant_of-self : goal.invariant_of-self
invariant_of-self c = record {
  room_for_all = c.self.invariant.room_for_all;
  index = c.self.invariant.index;
  begins = c.self.invariant.begins;
  firsts = subst (AreFirst c.self.inside.columns c.self.inside.order.items) (sym c.learn.ensures.learned)
      (learned_more c.self.inside.columns c.self.inside.order.items c.self.inside.known.places.items c.self.inside.sought c.first_under-first.result c.self.invariant.index.as_many.few
      (subst (λ os. IfSome c.first_under-first.result (λ p. IsFirstIn c.self.inside.columns os c.self.inside.sought p)) c.deref.ensures.value c.first_under-first.ensures) c.self.invariant.firsts);
}
