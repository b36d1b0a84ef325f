use Rattle.std.proofs.Common.{◌≡◌, ◌<◌, ◌≤◌, ◌^◌, length, arith, ap}
use Rattle.sock_tcp.specs.View.{View}
use Rattle.sock_tcp.proofs.Acking.{acked_fits, none_acked}
use Rattle.sock_tcp.proofs.control_block.ControlBlock.acked_by_passing.Goals as goal

pub returns-in-None-clause-fits : goal.returns-in-None-clause-fits
returns-in-None-clause-fits c = rw c.acked.ensures (none_acked c.args.control c.args.self.now)

pub returns-in-Some-clause-fits : goal.returns-in-Some-clause-fits
returns-in-Some-clause-fits c =
    let v = c.args.self.now in
    let b : c.self.inside.local_seq_no.0 ≡ v.local_seq_no.0 = ap (λ (w : View). w.local_seq_no.0) c.self.view_is in
    let q : length c.self.inside.tx_buffer.queue ≡ length v.tx_buffer.bytes = ap (λ (w : View). length w.tx_buffer.bytes) c.self.view_is in
    let una : v.local_seq_no.0 < 2 ^ 32 = omega (arith, b, c.in_range.ensures) in
    let queue : length v.tx_buffer.bytes ≤ 2 ^ 30 = omega (arith, q, c.self.invariant.tx_size) in
    rw c.acked-in-Some.ensures (acked_fits c.args.control v c.in-Some.number una c.in_range-in-Some.ensures queue (rw c.in-Some.is at c.requires))
