use Rattle.std.proofs.Common.{rules, ◌≡◌, Some, true}
use Rattle.sock_tcp.proofs.Beginning.{begun_on}
use Rattle.sock_tcp.proofs.control_block.ControlBlock.begin.Goals as goal

pub returns-clause-table : goal.returns-clause-table
returns-clause-table g c =
    let t : c.args.self.now.tuple ≡ Some c.in-Some.tuple = search rules in
    let a : (g.C.Context.facts c.args.cx.now).has_address c.in-Some.tuple.local.addr ≡ true = search rules in
    begun_on c.args.self.now c.heed_timers.new.self c.set_last_ts_and_tell.new.self (g.C.Context.facts c.args.cx.now) c.in-Some.tuple c.now-now.result c.is_paused.result t a c.now-now.ensures.value c.set_last_ts_and_tell.ensures.table c.heed_timers.ensures.table c.is_paused.ensures
