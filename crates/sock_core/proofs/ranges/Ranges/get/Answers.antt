use Rattle.sock_core.proofs.Tables.{get_none, get_some}
use Rattle.sock_core.proofs.ranges.Ranges.get.Goals as goal

pub returns-then-self-index : goal.returns-then-self-index
returns-then-self-index c = get_none _ _ _ _ _ c.self.view_is _ c.self.invariant.0 c.self.invariant.1 c.self.invariant.2 c.if-self-index.true

pub returns : goal.returns
returns c = get_some _ _ _ _ _ c.self.view_is _ _ _ _ c.self.invariant.0 c.self.invariant.1 c.self.invariant.2 c.if-self-index.false c.offset.ensures.value c.offset-2.ensures.value
