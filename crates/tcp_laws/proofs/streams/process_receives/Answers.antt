use Rattle.control_wire.specs.Segment.{segment_of}
use Rattle.sock_tcp.specs.View.{moment_of}
use Rattle.tcp_laws.proofs.SegmentsAsSteps.{segment_is_step}
use Rattle.tcp_laws.proofs.streams.process_receives.Goals as goal

pub returns-clause-call : goal.returns-clause-call
returns-clause-call g c k =
    let h = c.process.ensures.table in
    segment_is_step g.C.Context.facts g.C.Context.word_at c.args.socket.now.control_block _ c.args.cx.now _ (moment_of (g.C.Context.facts c.args.cx.now)) c.args.ip_repr.now (segment_of c.args.repr.now) k c.requires.accepted c.numbers_fit.ensures c.requires.small h.view h.context
