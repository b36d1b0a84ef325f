use Rattle.host_context.specs.Layer.{puts_tcp}
use Rattle.host_context.proofs.Puts.{dispatches, leaves}
use Rattle.host_context.proofs.layer.dispatch_tcp.Goals as goal

pub returns-clause-table : goal.returns-clause-table
returns-clause-table g c =
    dispatches _ _ puts_tcp tt (λ shown left s r h. h.1) c.args.interface.now c.dispatch.new.cx c.dispatch.result _ g.G.TsvalSource.tells c.args.socket.now.tsval_generator c.args.socket.now.control_block c.dispatch.new.self.control_block c.dispatch.ensures.table

pub returns-clause-kept : goal.returns-clause-kept
returns-clause-kept g c =
    (leaves c.args.interface.now c.dispatch.new.cx c.dispatch.result _ g.G.TsvalSource.tells c.args.socket.now.tsval_generator c.args.socket.now.control_block c.dispatch.new.self.control_block (returns-clause-table g c)).kept

pub returns-clause-same : goal.returns-clause-same
returns-clause-same g c =
    (leaves c.args.interface.now c.dispatch.new.cx c.dispatch.result _ g.G.TsvalSource.tells c.args.socket.now.tsval_generator c.args.socket.now.control_block c.dispatch.new.self.control_block (returns-clause-table g c)).same
