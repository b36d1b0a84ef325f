use Rattle.net_base.proofs.Cells.{one_appended, place_below}
use Rattle.net_base.proofs.ring_buffer.RingBuffer.enqueue_one.Goals as goal

pub returns : goal.returns
returns g c =
    let q = c.self.inside in
    one_appended _ _ _ _ _ _ c.self.view_is c.self.invariant c.place-at.ensures.low c.place-at.ensures.high c.requires
    (place_below _ _ _ _ _ c.self.view_is c.self.invariant c.requires c.place-at.ensures.low c.place-at.ensures.high)
