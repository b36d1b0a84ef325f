use Rattle.control_wire.specs.Segment.{segment_of}
use Rattle.sock_tcp.proofs.Late.{said_late}
use Rattle.sock_tcp.proofs.control_block.ControlBlock.process_and_close.Goals as goal

pub returns-clause-table : goal.returns-clause-table
returns-clause-table g c = said_late c.process_by_rfc-answer.result c.process_by_rfc-answer.new.self c.close_late.new.self (segment_of c.args.repr.now) _ c.process_by_rfc-answer.ensures.table c.close_late.ensures
