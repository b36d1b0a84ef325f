use Rattle.std.proofs.Common.{length}
use Rattle.net_base.proofs.Around.{place_is}
use Rattle.net_base.proofs.Entries.{view_dropped}
use Rattle.net_base.proofs.packet_buffer.PacketBuffer.drop_first.Goals as goal

pub returns-clause-after : goal.returns-clause-after
returns-clause-after g c =
    let q = c.self.inside in
    let at_is = place_is (length q.payload.now) q.start c.front-first.result.size c.place-self-inside.result c.place-self-inside.ensures.low c.place-self-inside.ensures.high in
    view_dropped _ _ _ _ _ c.self.view_is c.self.invariant _ _ c.front-first.ensures _ _ c.dequeue_allocated.ensures at_is
