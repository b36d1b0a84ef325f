use Rattle.control_wire.specs.Segment.{segment_of}
use Rattle.sock_tcp.specs.Process.{tuple_of}
use Rattle.sock_tcp.proofs.Refusing.{nothing_said}
use Rattle.sock_tcp.proofs.control_block.ControlBlock.hear_outside.Goals as goal

pub returns-in-Nothing-clause-table : goal.returns-in-Nothing-clause-table
returns-in-Nothing-clause-table g c = nothing_said _ _ c.process_inside.new.self _ c.in-Nothing.ensures.table (c.answer_unless_ended.ensures (tuple_of c.args.ip_repr.now (segment_of c.args.repr.now)) (g.C.Context.word_at c.args.cx.now 0))
