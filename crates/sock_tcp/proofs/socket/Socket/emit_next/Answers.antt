use Rattle.std.proofs.Common.{rules, ◌≡◌, true, false}
use Rattle.sock_tcp.proofs.Beginning.{goes_on, goes_not}
use Rattle.sock_tcp.proofs.Emitting.{quiet, due}
use Rattle.sock_tcp.proofs.socket.Socket.emit_next.Goals as goal

pub returns-then-not-before_emit-clause-table : goal.returns-then-not-before_emit-clause-table
returns-then-not-before_emit-clause-table g c =
    let no : c.before_emit.result ≡ false = search rules in
    quiet g.F.FnOnce c.args.emit (g.C.Context.facts c.args.cx.now) g.G.TsvalSource.tells c.args.self.now.tsval_generator c.args.self.now.control_block c.args.cx.now c.before_emit.new.self (goes_not _ _ _ no c.before_emit.ensures.table)

pub returns-clause-table : goal.returns-clause-table
returns-clause-table g c =
    let yes : c.before_emit.result ≡ true = search rules in
    due g.F.FnOnce c.args.emit (g.C.Context.facts c.args.cx.now) g.G.TsvalSource.tells c.args.self.now.tsval_generator c.args.self.now.control_block c.args.cx.now _ c.before_emit.new.self c.tsval-stamp.result _ _ (goes_on _ _ _ yes c.before_emit.ensures.table) c.tsval-stamp.ensures.told c.emit_due.ensures.table
