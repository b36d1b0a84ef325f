use Rattle.std.proofs.Common.{ℕ, min, length, sym, ap₂, ◌∙◌, arith}
use Rattle.net_base.proofs.Around.{place_is}
use Rattle.net_base.proofs.Entries.{taken_view, room-view, start-view, end-view}
use Rattle.net_base.proofs.packet_buffer.PacketBuffer.run_len.Goals as goal

pub returns-clause-run : goal.returns-clause-run
returns-clause-run g c =
    let q = c.self.inside in
    let at_is = place_is (length q.payload.now) q.start q.length c.place-end.result c.place-end.ensures.low c.place-end.ensures.high in
    let end_is = at_is ∙ sym (end-view _ _ _ _ _ c.self.view_is c.self.invariant) in
    let taken_is = taken_view _ _ _ _ _ c.self.view_is c.self.invariant in
    let room_is = room-view _ _ _ _ _ c.self.view_is c.self.invariant in
    c.min.ensures ∙ ap₂ (λ (a b : ℕ). min a b) (omega (arith, taken_is, room_is)) (omega (arith, end_is, room_is))

pub returns-clause-start : goal.returns-clause-start
returns-clause-start g c = omega (arith, start-view _ _ _ _ _ c.self.view_is c.self.invariant, room-view _ _ _ _ _ c.self.view_is c.self.invariant, c.self.invariant.start_within)

pub returns-clause-taken : goal.returns-clause-taken
returns-clause-taken g c = omega (arith, taken_view _ _ _ _ _ c.self.view_is c.self.invariant, room-view _ _ _ _ _ c.self.view_is c.self.invariant, c.self.invariant.length_within)
