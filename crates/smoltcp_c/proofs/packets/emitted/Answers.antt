use Rattle.smoltcp_c.specs.Context.{facts_in}
use Rattle.smoltcp_c.specs.Packets.{DispatchesInto}
use Rattle.smoltcp_c.proofs.Emitting.{dispatched}
use Rattle.smoltcp_c.proofs.packets.emitted.Goals as goal

pub returns-clause-table : goal.returns-clause-table
unfolding DispatchesInto
returns-clause-table c =
    (dispatched _ _ (λ shown left s r h. h.1) (facts_in c.args.wire.now.moment.cx) c.args.socket.now.tsval_generator c.args.wire.now c.dispatch.new.cx c.args.socket.now.control_block c.dispatch.new.self.control_block c.dispatch.result c.requires c.dispatch.ensures.table).table

pub returns-clause-same_buffer : goal.returns-clause-same_buffer
returns-clause-same_buffer c =
    (dispatched _ _ (λ shown left s r h. h.1) (facts_in c.args.wire.now.moment.cx) c.args.socket.now.tsval_generator c.args.wire.now c.dispatch.new.cx c.args.socket.now.control_block c.dispatch.new.self.control_block c.dispatch.result c.requires c.dispatch.ensures.table).same_buffer
