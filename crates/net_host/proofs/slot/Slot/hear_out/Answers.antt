use Rattle.std.proofs.Common.{◌∙◌, Some, ap}
use Rattle.control_wire.specs.Segment.{segment_of}
use Rattle.sock_tcp.specs.declared.duplicates.Response.TheVariants as responses
use Rattle.net_host.proofs.KnownAnswers.{heard_out}
use Rattle.net_host.proofs.slot.Slot.hear_out.Goals as goal

pub returns-in-Ack-clause-heard : goal.returns-in-Ack-clause-heard
returns-in-Ack-clause-heard g c = heard_out g.C.Context.facts g.C.Context.word_at g.G.TsvalSource.tells c.args.self.now c.in-Some-Tcp.tcp c.take_segment.new.self c.put_answer.new.tcp (responses.Ack c.in-Ack.count) c.args.cx.now c.take_segment.new.cx c.args.limit.now c.put_answer.new.limit c.args.ip.now (segment_of c.args.repr.now) c.args.out.now c.put_answer.new.out c.put_answer.result (c.in-Some-Tcp.is ∙ ap (λ s. Some s) c.in-Some-Tcp.field-0-is) c.in-Ack.ensures.table c.in-Ack.ensures.context c.in-Ack.ensures.generator c.put_answer.ensures.put c.put_answer.ensures.generator

pub returns-in-Rst-clause-heard : goal.returns-in-Rst-clause-heard
returns-in-Rst-clause-heard g c = heard_out g.C.Context.facts g.C.Context.word_at g.G.TsvalSource.tells c.args.self.now c.in-Some-Tcp.tcp c.take_segment.new.self c.put_answer-in-Rst.new.tcp responses.Rst c.args.cx.now c.take_segment.new.cx c.args.limit.now c.put_answer-in-Rst.new.limit c.args.ip.now (segment_of c.args.repr.now) c.args.out.now c.put_answer-in-Rst.new.out c.put_answer-in-Rst.result (c.in-Some-Tcp.is ∙ ap (λ s. Some s) c.in-Some-Tcp.field-0-is) c.in-Rst.ensures.table c.in-Rst.ensures.context c.in-Rst.ensures.generator c.put_answer-in-Rst.ensures.put c.put_answer-in-Rst.ensures.generator
