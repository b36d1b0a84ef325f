use Rattle.std.proofs.Common.{rules, ◌≡◌, Some}
use Rattle.control_wire.specs.Segment.{segment_of}
use Rattle.sock_tcp.proofs.Emitting.{silent, emitted}
use Rattle.sock_tcp.proofs.control_block.ControlBlock.emit_due.Goals as goal

pub returns-in-None-finish_packet-clause-table : goal.returns-in-None-finish_packet-clause-table
returns-in-None-finish_packet-clause-table g c =
    let t : c.args.self.now.tuple ≡ Some c.in-Some.tuple = search rules in
    silent g.F.FnOnce _ (g.C.Context.facts c.args.cx.now) c.in-Some.tuple c.args.stamp c.args.self.now c.payload-payload.result.now (segment_of c.plain.result) _ t c.payload-payload.ensures.lent c.requires.stamped c.plain.ensures.segment c.in-None-finish_packet.ensures.packet c.sends_packets.ensures

pub returns-clause-table : goal.returns-clause-table
returns-clause-table g c =
    let t : c.args.self.now.tuple ≡ Some c.in-Some.tuple = search rules in
    emitted g.F.FnOnce _ (g.C.Context.facts c.args.cx.now) c.in-Some.tuple c.args.stamp c.args.self.now c.payload-payload.result.now (segment_of c.plain.result) c.in-Some-finish_packet.kind c.finish_packet.new.packet c.number_packet.new.packet c.now-now.result c.of-emitted.result c.is_ok.result _ _ c.emit-result.result _ t c.payload-payload.ensures.lent c.requires.stamped c.plain.ensures.segment c.in-Some-finish_packet.ensures.packet c.now-now.ensures.value c.of-emitted.ensures c.number_packet.ensures.header c.number_packet.ensures.segment c.is_ok.ensures.value c.after_emit.ensures.view c.emit-result.ensures c.sends_packets.ensures
