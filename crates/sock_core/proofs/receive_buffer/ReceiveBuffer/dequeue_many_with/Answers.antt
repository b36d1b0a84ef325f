use Rattle.std.specs.Fn.{FnOnceReturnsAt}
use Rattle.sock_core.proofs.ReceiveBuffers.{reads_with}
use Rattle.sock_core.proofs.receive_buffer.ReceiveBuffer.dequeue_many_with.Goals as goal

pub returns-clause-call : goal.returns-clause-call
returns-clause-call g c =
    reads_with c.self.inside.ring c.self.inside.ranges _ c.self.view_is c.self.invariant.1 (FnOnceReturnsAt g.F.FnOnce c.args.f) c.dequeue_many_with.result c.dequeue_many_with.new.self c.dequeue_many_with.ensures
