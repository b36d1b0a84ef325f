use Rattle.std.proofs.Common.{length, sym, ◌∙◌, arith}
use Rattle.net_base.proofs.Around.{place_is}
use Rattle.net_base.proofs.Entries.{end-view, free-view, run-view, room-view, laid_appended, appended_is}
use Rattle.net_base.proofs.Written.{appended_written}
use Rattle.net_base.proofs.packet_buffer.PacketBuffer.append.Goals as goal

pub enqueue_one-requires : goal.enqueue_one-requires
enqueue_one-requires g c = free-view _ _ _ _ _ c.self.view_is c.self.invariant c.requires.place

pub invariant_of-self : goal.invariant_of-self
invariant_of-self g c =
    let q = c.self.inside in
    let at_is = place_is (length q.payload.now) q.start q.length c.place-from.result c.place-from.ensures.low c.place-from.ensures.high in
    laid_appended _ _ _ _ _ c.self.view_is c.self.invariant _ _ _ c.requires.fits at_is c.place-from.ensures.low c.place-from.ensures.high _ c.enqueue_one.ensures

pub returns-clause-from : goal.returns-clause-from
returns-clause-from g c =
    let q = c.self.inside in
    place_is (length q.payload.now) q.start q.length c.place-from.result c.place-from.ensures.low c.place-from.ensures.high ∙ sym (end-view _ _ _ _ _ c.self.view_is c.self.invariant)

pub returns-clause-after : goal.returns-clause-after
returns-clause-after g c =
    let q = c.self.inside in
    let at_is = place_is (length q.payload.now) q.start q.length c.place-from.result c.place-from.ensures.low c.place-from.ensures.high in
    appended_is _ _ _ _ _ c.self.view_is c.self.invariant _ _ _ c.requires.fits at_is c.place-from.ensures.low c.place-from.ensures.high _ c.enqueue_one.ensures c.requires.place

pub returns-clause-within : goal.returns-clause-within
returns-clause-within g c =
    let q = c.self.inside in
    let at_is = place_is (length q.payload.now) q.start q.length c.place-from.result c.place-from.ensures.low c.place-from.ensures.high in
    let run = run-view _ _ _ _ _ c.self.view_is c.self.invariant c.args.size c.requires.fits in
    omega (arith, at_is, run.1, room-view _ _ _ _ _ c.self.view_is c.self.invariant)

pub returns-clause-written : goal.returns-clause-written
returns-clause-written g c =
    let q = c.self.inside in
    let at_is = place_is (length q.payload.now) q.start q.length c.place-from.result c.place-from.ensures.low c.place-from.ensures.high in
    appended_written _ _ _ _ _ c.self.view_is c.self.invariant _ _ _ c.requires.fits at_is c.place-from.ensures.low c.place-from.ensures.high _ c.enqueue_one.ensures c.requires.place
