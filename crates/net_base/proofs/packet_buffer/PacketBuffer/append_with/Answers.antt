use Rattle.std.proofs.Common.{length, arith}
use Rattle.net_base.proofs.Around.{place_is}
use Rattle.net_base.proofs.Entries.{run-view, free-view, laid_after, appended_after}
use Rattle.net_base.proofs.packet_buffer.PacketBuffer.append_with.Goals as goal

pub lend_bytes-kept-requires-clause-fits : goal.lend_bytes-kept-requires-clause-fits
lend_bytes-kept-requires-clause-fits g c =
    let q = c.self.inside in
    let at_is = place_is (length q.payload.now) q.start q.length c.place-from.result c.place-from.ensures.low c.place-from.ensures.high in
    let run = run-view _ _ _ _ _ c.self.view_is c.self.invariant c.args.size c.requires.fits in
    omega (arith, at_is, run.1)

pub enqueue_one-requires : goal.enqueue_one-requires
enqueue_one-requires g c = free-view _ _ _ _ _ c.self.view_is c.self.invariant c.requires.place

pub invariant_of-self : goal.invariant_of-self
invariant_of-self g c =
    let q = c.self.inside in
    let at_is = place_is (length q.payload.now) q.start q.length c.place-from.result c.place-from.ensures.low c.place-from.ensures.high in
    laid_after _ _ _ _ _ c.self.view_is c.self.invariant _ _ _ _ _ _ c.requires.fits c.lend_bytes-kept.ensures.size at_is c.lend_bytes-kept.ensures.left c.place-from.ensures.low c.place-from.ensures.high _ c.enqueue_one.ensures

pub returns : goal.returns
returns g c =
    let q = c.self.inside in
    let at_is = place_is (length q.payload.now) q.start q.length c.place-from.result c.place-from.ensures.low c.place-from.ensures.high in
    appended_after _ _ _ _ _ c.self.view_is c.self.invariant _ _ _ _ _ _ c.requires.fits c.lend_bytes-kept.ensures.size at_is c.lend_bytes-kept.ensures.left c.place-from.ensures.low c.place-from.ensures.high _ c.enqueue_one.ensures c.requires.place
