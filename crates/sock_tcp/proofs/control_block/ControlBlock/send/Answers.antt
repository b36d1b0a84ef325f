use Rattle.std.proofs.Common.{length, sym, ap, ◌∙◌}
use Rattle.std.specs.Prelude.{◌==◌}
use Rattle.std.specs.Fn.{FnOnceReturnsAtMut}
use Rattle.sock_tcp.specs.Queue.{queue_of}
use Rattle.sock_tcp.specs.Queues.{last_ts_from, timer_after}
use Rattle.sock_tcp.specs.View.{View}
use Rattle.sock_tcp.proofs.Sending.{fills}
use Rattle.sock_tcp.proofs.control_block.ControlBlock.send.Goals as goal

pub returns-clause-table : goal.returns-clause-table
returns-clause-table g c =
    let n = c.enqueue_many_with-count.result.0 in
    let q = queue_of c.enqueue_many_with-count.new.self in
    fills (FnOnceReturnsAtMut g.F.FnOnce c.args.f) c.self.inside.tx_buffer c.enqueue_many_with-count.new.self c.enqueue_many_with-count.result c.enqueue_many_with-count.ensures.call
    c.args.self.now c.note_queued.new.self c.is_empty-was_empty.result (ap (λ (v : View). v.tx_buffer) c.self.view_is) (sym c.may_send.ensures ∙ c.if-not-may_send.false)
    (c.is_empty-was_empty.ensures ∙ ap (λ (v : View). length v.tx_buffer.bytes == 0) c.self.view_is)
    (c.note_queued.ensures ∙ ap (λ (v : View). record v { tx_buffer = q; remote_last_ts = last_ts_from c.is_empty-was_empty.result v n; timer = timer_after v n }) c.self.view_is)
