use Rattle.smoltcp_c.proofs.RawSending.{dispatched}
use Rattle.smoltcp_c.proofs.datagram_packets.emitted_by_raw.Goals as goal

pub returns-clause-table : goal.returns-clause-table
returns-clause-table c =
    (dispatched _ _ (λ shown left s r h. h.1) c.args.wire.now c.dispatch.new.cx c.args.socket.now c.dispatch.new.self c.dispatch.result c.requires c.dispatch.ensures.table).0

pub returns-clause-same_buffer : goal.returns-clause-same_buffer
returns-clause-same_buffer c =
    (dispatched _ _ (λ shown left s r h. h.1) c.args.wire.now c.dispatch.new.cx c.args.socket.now c.dispatch.new.self c.dispatch.result c.requires c.dispatch.ensures.table).1
