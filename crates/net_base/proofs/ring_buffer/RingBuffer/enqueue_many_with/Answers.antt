use Rattle.net_base.proofs.Cells.{enqueued_with}
use Rattle.net_base.proofs.ring_buffer.RingBuffer.enqueue_many_with.Goals as goal

pub returns-clause-call : goal.returns-clause-call
returns-clause-call g c =
    enqueued_with _ _ _ _ _ _ _ _ _ _ c.restart_if_empty.ensures.after c.self.view_is c.self.invariant c.place-from.ensures.low c.place-from.ensures.high c.min-count.ensures c.place-from.ensures.within c.lend-size.ensures.size c.lend-size.ensures.left
