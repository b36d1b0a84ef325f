use Rattle.smoltcp_c.specs.Context.{facts_in}
use Rattle.smoltcp_c.proofs.IcmpSending.{dispatched}
use Rattle.smoltcp_c.proofs.datagram_packets.emitted_by_icmp.Goals as goal

pub returns-clause-table : goal.returns-clause-table
returns-clause-table c =
    (dispatched _ _ (λ shown left s r h. h.1) (facts_in c.args.wire.now.moment.cx) c.args.wire.now c.dispatch.new.cx c.args.socket.now c.dispatch.new.self c.dispatch.result c.requires.len c.requires.sourced c.dispatch.ensures.table).table

pub returns-clause-unsourced : goal.returns-clause-unsourced
returns-clause-unsourced c =
    (dispatched _ _ (λ shown left s r h. h.1) (facts_in c.args.wire.now.moment.cx) c.args.wire.now c.dispatch.new.cx c.args.socket.now c.dispatch.new.self c.dispatch.result c.requires.len c.requires.sourced c.dispatch.ensures.table).told

pub returns-clause-same_buffer : goal.returns-clause-same_buffer
returns-clause-same_buffer c =
    (dispatched _ _ (λ shown left s r h. h.1) (facts_in c.args.wire.now.moment.cx) c.args.wire.now c.dispatch.new.cx c.args.socket.now c.dispatch.new.self c.dispatch.result c.requires.len c.requires.sourced c.dispatch.ensures.table).same_buffer
