use Rattle.tcp_laws.proofs.CallsAsSteps.{dispatches_out}
use Rattle.tcp_laws.proofs.streams.dispatch_sends.Goals as goal

pub returns : goal.returns
returns g c = dispatches_out g.F.FnOnce c.args.emit (g.C.Context.facts c.args.cx.now) g.G.TsvalSource.tells c.args.socket.now.tsval_generator c.args.socket.now.control_block c.args.cx.now _ _ _ c.dispatch.ensures.table
