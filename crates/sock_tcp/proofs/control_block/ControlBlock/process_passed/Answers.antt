use Rattle.std.proofs.Common.{◌≡◌, ◌≤◌, ◌^◌, length, arith, ap, ◌∙◌, sym, true}
use Rattle.sock_tcp.specs.View.{View}
use Rattle.sock_tcp.specs.Window.{accepted_window, is_inside}
use Rattle.sock_tcp.specs.declared.window.Window.{Window}
use Rattle.sock_tcp.proofs.Windows.{cut_fits}
use Rattle.sock_tcp.proofs.control_block.ControlBlock.process_passed.Goals as goal

pub process_inside-requires-2-clause-fits : goal.process_inside-requires-2-clause-fits
process_inside-requires-2-clause-fits g c =
    let v = c.args.self.now in
    let held : length c.self.inside.rx_buffer.held ≡ length v.rx_buffer.held = ap (λ (w : View). length w.rx_buffer.held) c.self.view_is in
    let room : length v.rx_buffer.held ≤ 2 ^ 30 = omega (arith, held, c.self.invariant.rx_size) in
    let inside : is_inside (accepted_window v.rules v) c.args.repr.now.seq_number (length c.args.repr.now.payload.now) ≡ true =
    ap (λ (w : Window). is_inside w c.args.repr.now.seq_number (length c.args.repr.now.payload.now)) (sym c.requires.window) ∙ sym c.is_inside.ensures ∙ c.if-not-is_inside.false in
    let fits = cut_fits v.rules v c.args.repr.now.seq_number c.args.repr.now.payload.now room c.in_range.ensures c.requires.small inside in
    rw (c.of-bytes.ensures, c.cut-cut.ensures, c.requires.window) (omega (arith, fits, held))
