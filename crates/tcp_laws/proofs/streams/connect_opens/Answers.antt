use Rattle.tcp_laws.proofs.SegmentsAsSteps.{connect_is_step}
use Rattle.tcp_laws.proofs.streams.connect_opens.Goals as goal

pub returns-clause-call : goal.returns-clause-call
returns-clause-call g c k = connect_is_step g.C.Context.facts g.C.Context.word_at c.args.socket.now.control_block _ c.args.cx.now _ c.args.remote c.args.local _ k c.connect.ensures.table
