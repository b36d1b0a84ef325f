use Rattle.std.proofs.Common.{refl, ◌∙◌, Ok, true, rules}
use Rattle.control_wire.specs.Segment.{segment_of}
use Rattle.sock_tcp.specs.Replies.{IsReplyStamp, echoed}
use Rattle.host_context.proofs.Puts.{heard}
use Rattle.host_context.proofs.layer.hear.Goals as goal

pub returns-in_err-put_answer-clause-table : goal.returns-in_err-put_answer-clause-table
returns-in_err-put_answer-clause-table g c = λ p e.
    heard _ _ (λ x. refl) (λ q. IsReplyStamp g.G.TsvalSource.tells c.process-answer.new.self.tsval_generator (echoed c.process-answer.new.self.control_block q.segment.timestamp)) c.args.socket.now.control_block c.process-answer.new.self.control_block c.args.interface.now c.hold-packets.new.interface c.process-answer.new.cx c.put_back.new.interface c.put_answer.new.interface (record { ip = c.args.ip.now; segment = segment_of c.args.repr.now }) p c.process-answer.result c.from_residual.result e c.hold-packets.ensures.same c.process-answer.ensures.table
    c.put_back.ensures.same (c.put_back.ensures.packets ∙ c.hold-packets.ensures.packets) c.put_answer.ensures.same (search rules) (search rules) (search rules)

pub returns-clause-table : goal.returns-clause-table
returns-clause-table g c = λ p e.
    heard _ _ (λ x. refl) (λ q. IsReplyStamp g.G.TsvalSource.tells c.process-answer.new.self.tsval_generator (echoed c.process-answer.new.self.control_block q.segment.timestamp)) c.args.socket.now.control_block c.process-answer.new.self.control_block c.args.interface.now c.hold-packets.new.interface c.process-answer.new.cx c.put_back.new.interface c.put_answer.new.interface (record { ip = c.args.ip.now; segment = segment_of c.args.repr.now }) p c.process-answer.result (Ok true) e c.hold-packets.ensures.same c.process-answer.ensures.table
    c.put_back.ensures.same (c.put_back.ensures.packets ∙ c.hold-packets.ensures.packets) c.put_answer.ensures.same refl (search rules) tt
