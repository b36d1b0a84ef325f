use Rattle.std.proofs.Common.{ap, ◌∙◌, ◌+◌}
use Rattle.net_base.specs.Ranges.{insert_range}
use Rattle.sock_core.proofs.Tables.{behind_apart, behind_near, behind_invariant}
use Rattle.sock_core.proofs.ranges.Ranges.add_behind.Goals as goal

pub as_places-self-inside-requires-clause-apart : goal.as_places-self-inside-requires-clause-apart
as_places-self-inside-requires-clause-apart c =
    behind_apart c.args.offset c.args.len _ _ c.requires.behind c.requires.some c.requires.small c.self.invariant.3 c.self.invariant.4 (c.with_range-joined.ensures.ranges ∙ ap (insert_range c.args.offset (c.args.offset + c.args.len)) c.as_offsets-ranges.ensures.ranges)

pub as_places-self-inside-requires-clause-near : goal.as_places-self-inside-requires-clause-near
as_places-self-inside-requires-clause-near c =
    behind_near c.args.offset c.args.len _ _ c.requires.behind c.requires.some c.requires.small c.self.invariant.3 c.self.invariant.4 (c.with_range-joined.ensures.ranges ∙ ap (insert_range c.args.offset (c.args.offset + c.args.len)) c.as_offsets-ranges.ensures.ranges)

pub invariant_of-self : goal.invariant_of-self
invariant_of-self c =
    let is = c.with_range-joined.ensures.ranges ∙ ap (insert_range c.args.offset (c.args.offset + c.args.len)) c.as_offsets-ranges.ensures.ranges in
    behind_invariant _ _ _ _ c.as_places-self-inside.ensures.long c.if-joined-gt-MOST.false c.with_range-joined.ensures.long
    (behind_apart c.args.offset c.args.len _ _ c.requires.behind c.requires.some c.requires.small c.self.invariant.3 c.self.invariant.4 is)
    (behind_near c.args.offset c.args.len _ _ c.requires.behind c.requires.some c.requires.small c.self.invariant.3 c.self.invariant.4 is)
    c.as_places-self-inside.ensures.places
