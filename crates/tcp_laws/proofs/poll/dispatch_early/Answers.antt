use Rattle.sock_tcp.proofs.Emitting.{is_quiet}
use Rattle.tcp_laws.proofs.Polling.{poll_hides_nothing}
use Rattle.tcp_laws.proofs.poll.dispatch_early.Goals as goal

pub returns-clause-answer : goal.returns-clause-answer
returns-clause-answer g c =
    (is_quiet g.F.FnOnce c.args.emit (g.C.Context.facts c.args.cx.now) g.G.TsvalSource.tells c.args.socket.now.tsval_generator c.args.socket.now.control_block c.args.cx.now _ _ _ (poll_hides_nothing c.args.socket.now.control_block (g.C.Context.facts c.args.cx.now) c.requires.later) c.dispatch.ensures.table).answer

pub returns-clause-context : goal.returns-clause-context
returns-clause-context g c =
    (is_quiet g.F.FnOnce c.args.emit (g.C.Context.facts c.args.cx.now) g.G.TsvalSource.tells c.args.socket.now.tsval_generator c.args.socket.now.control_block c.args.cx.now _ _ _ (poll_hides_nothing c.args.socket.now.control_block (g.C.Context.facts c.args.cx.now) c.requires.later) c.dispatch.ensures.table).context
