use Rattle.std.proofs.Common.{◌≡◌, ◌≤◌, ◌^◌, length, arith, ap}
use Rattle.sock_tcp.specs.View.{View}
use Rattle.sock_tcp.proofs.Windows.{kept_within}
use Rattle.sock_tcp.proofs.control_block.ControlBlock.receive_window.Goals as goal

pub returns-in-Some-clause-within : goal.returns-in-Some-clause-within
returns-in-Some-clause-within c =
    let s : length c.self.inside.rx_buffer.held ≡ length c.args.self.now.rx_buffer.held = ap (λ (w : View). length w.rx_buffer.held) c.self.view_is in
    let n : c.window.result ≤ 2 ^ 30 = omega (arith, c.window.ensures, c.self.invariant.rx_size) in
    let k = kept_within c.next_ack-start.result c.plus-edge.result c.window.result c.in_range.ensures c.in_range-in-Some.ensures n in
    rw (c.kept_between-end.ensures, c.plus.ensures) (omega (arith, k, c.window.ensures, s))
