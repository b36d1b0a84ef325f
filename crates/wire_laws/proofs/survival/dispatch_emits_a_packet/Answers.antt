use Rattle.wire_laws.proofs.Dispatching.{dispatched}
use Rattle.wire_laws.proofs.Fields.{survives}
use Rattle.wire_laws.proofs.survival.dispatch_emits_a_packet.Goals as goal

pub returns-clause-survives : goal.returns-clause-survives
returns-clause-survives g c =
    dispatched g.F.FnOnce c.args.emit (g.C.Context.facts c.args.cx.now) g.G.TsvalSource.tells c.args.socket.now.tsval_generator (survives c.packets_read_back.ensures.tcp) c.args.socket.now.control_block c.args.cx.now _ _ _ c.dispatch.ensures.table
