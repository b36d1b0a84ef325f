use Rattle.segment_wire.proofs.Written.{filled_datagram}
use Rattle.segment_wire.proofs.udp.emit_with_checksum.Goals as goal

pub returns : goal.returns
returns c = filled_datagram c.args.src_addr.now c.args.dst_addr.now c.args.repr.now c.args.payload.now c.write.new.buffer c.fill_checksum.new.buffer c.pseudo_sum-start.result c.header_sum-front.result c.write.ensures.value c.pseudo_sum-start.ensures c.header_sum-front.ensures c.fill_checksum.ensures
