use Rattle.std.proofs.Common.{◌∙◌, arith}
use Rattle.net_base.proofs.Sets.{front_apart, added_apart}
use Rattle.net_base.proofs.assembler.Assembler.add_then_remove_front.Goals as goal

pub invariant_of-self : goal.invariant_of-self
invariant_of-self c =
    let e = c.with_range-joined.ensures in
    let l = c.lowered-self-inside.ensures in
    (l.long, omega (arith, e.count), front_apart _ _ _ _ _ _ _ c.self.view_is c.self.invariant c.requires.some e.count e.some e.long e.ranges c.if-offset-eq0.true _ l.ranges)

pub invariant_of-self-2 : goal.invariant_of-self-2
invariant_of-self-2 c =
    let e = c.with_range-joined.ensures in
    let copied = c.copy_from_slice.ensures in (
      copied.len ∙ c.self.invariant.0,
      c.if-joined-gt-MOST.false,
      added_apart _ _ _ _ _ _ _ c.self.view_is c.self.invariant c.requires.some e.count e.some e.long e.ranges c.if-offset-eq0.false c.if-joined-gt-MOST.false _ copied.after,
    )
