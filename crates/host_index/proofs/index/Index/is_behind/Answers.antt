use Rattle.std.proofs.Common.{◌≡◌, ◌∙◌, false, Some, None, subst, sym, ap, arith}
use Rattle.std.specs.Prelude.{slice_get}
use Rattle.std.specs.Option.{option_copied}
use Rattle.host_index.specs.Entries.{entry_at, has}
use Rattle.host_index.specs.Indexing.{entries_in}
use Rattle.host_index.proofs.Entered.{none_under}
use Rattle.host_index.proofs.Numbers.{first_is, none_in, sorted}
use Rattle.host_index.proofs.index.Index.is_behind.Goals as goal

pub returns-in-Some : goal.returns-in-Some
returns-in-Some c = λ less k few.
    let at : slice_get c.self.inside.order.items 0 ≡ Some c.in-Some.number.now = subst (λ os. slice_get os 0 ≡ Some c.in-Some.number.now) c.deref.ensures.value (sym c.first.ensures.value ∙ ap option_copied c.in-Some.is) in
    subst (λ l. has l (entry_at c.args.key k) ≡ false) (ap (λ v. v.entries) c.self.view_is)
    (none_under (entries_in c.self.inside.columns c.self.inside.order.items) c.args.key c.get.result
    (sorted c.self.inside.columns c.self.inside.order.items c.self.invariant.index.ordered)
    (λ there. first_is c.self.inside.columns c.self.inside.order.items c.in-Some.number.now c.get.result at c.get.ensures)
    (sym c.is_key_less.ensures ∙ less) (omega arith) k few)

pub returns-in-None : goal.returns-in-None
returns-in-None c = λ yes k few.
    let at : slice_get c.self.inside.order.items 0 ≡ None = subst (λ os. slice_get os 0 ≡ None) c.deref.ensures.value (sym c.first.ensures.value ∙ ap option_copied c.in-None.is) in
    subst (λ l. has l (entry_at c.args.key k) ≡ false) (ap (λ v. v.entries) c.self.view_is) (none_in c.self.inside.columns c.self.inside.order.items (entry_at c.args.key k) at)
