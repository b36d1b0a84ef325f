use Rattle.std.proofs.Common.{◌∙◌}
use Rattle.control_wire.specs.Segment.{segment_of}
use Rattle.sock_tcp.specs.Arrival.{arrival}
use Rattle.sock_tcp.specs.Process.{has_window, tested, tuple_of}
use Rattle.sock_tcp.specs.Rfc.Recovery.{recovered_by}
use Rattle.sock_tcp.specs.Rfc.Windows.{windowed}
use Rattle.sock_tcp.specs.View.{View}
use Rattle.sock_tcp.specs.declared.rules.Rules.TheVariants as rules
use Rattle.sock_tcp.proofs.Answering.{passed_none}
use Rattle.sock_tcp.proofs.Windowing.{answers_so}
use Rattle.sock_tcp.proofs.control_block.ControlBlock.process_by_rfc.Goals as goal

pub returns-clause-table : goal.returns-clause-table
returns-clause-table g c =
    let v : View = c.args.self.now in
    let e = c.windowed-windowed.ensures.segment in
    answers_so c.process_and_recover.result rules.Rfc c.process_and_recover.new.self v c.args.now (segment_of c.args.repr.now) (segment_of c.windowed-windowed.result) _ e
    (passed_none c.args.now (g.C.Context.word_at c.args.cx.now 0) c.args.ip_repr.now (windowed rules.Rfc v (segment_of c.args.repr.now)) v.rules v (has_window v.state))
    (c.process_and_recover.ensures.table ∙ (λ i. recovered_by rules.Rfc v c.args.now (e i) (tested (has_window v.state) v (arrival c.args.now (tuple_of c.args.ip_repr.now (e i)) (g.C.Context.word_at c.args.cx.now 0) (e i)))))
