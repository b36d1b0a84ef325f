use Rattle.std.proofs.Common.{subst, option_map}
use Rattle.control_wire.specs.Segment.{Segment}
use Rattle.sock_tcp.specs.Rfc.Numbers.{reply_numbered}
use Rattle.sock_tcp.specs.Process.{processed, reply_of}
use Rattle.sock_tcp.specs.Replies.{Answers, IsReplyStamp, echoed}
use Rattle.pair_core.proofs.host.process.Goals as goal

pub returns-clause-reply : goal.returns-clause-reply
returns-clause-reply g c =
    let m = c.args.moment.now in
    let ip = c.args.segment.now.header.ip_repr in
    let r = option_map reply_of c.process.result in
    subst (λ (s : Segment). Answers (IsReplyStamp g.G.TsvalSource.tells c.process.new.self.tsval_generator (echoed c.process.new.self.control_block s.timestamp)) ip (reply_numbered c.process.new.self.control_block (processed c.args.socket.now.control_block (record { micros = m.now.micros }) m.word ip s).reply) r) c.as_repr-repr.ensures
    c.process.ensures.table.answer
