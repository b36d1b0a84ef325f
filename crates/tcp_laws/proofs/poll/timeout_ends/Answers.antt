use Rattle.tcp_laws.proofs.TimingOut.{timeout_ends}
use Rattle.tcp_laws.proofs.poll.timeout_ends.Goals as goal

pub returns-clause-closed : goal.returns-clause-closed
returns-clause-closed g c =
    timeout_ends g.F.FnOnce c.args.emit (g.C.Context.facts c.args.cx.now) g.G.TsvalSource.tells c.args.socket.now.tsval_generator c.args.socket.now.control_block c.args.cx.now _ _ _ c.dispatch.ensures.table c.requires.timed_out
