use Rattle.std.proofs.Common.{◌≡◌, ◌∙◌, ◌≤◌, Some, ap, subst}
use Rattle.sock_tcp.specs.View.{View}
use Rattle.sock_tcp.proofs.Fitting.{content_fits}
use Rattle.sock_tcp.proofs.control_block.ControlBlock.sends_packets.Goals as goal

pub returns : goal.returns
returns g c =
    let small : c.args.self.now.remote_win_shift ≤ 14 = subst (λ n. n ≤ 14) (ap (λ (w : View). w.remote_win_shift) c.self.view_is) c.self.invariant.shift_at_most in
    let peer : c.self.inside.tuple ≡ Some c.args.tuple.now = ap (λ (w : View). w.tuple) c.self.view_is ∙ c.requires.tuple in
    content_fits c.args.self.now c.args.tuple.now (g.C.Context.facts c.args.cx.now) c.args.stamp c.args.payload.now small (c.self.invariant.versions c.args.tuple.now peer) c.requires.lawful.1 c.requires.stamped c.requires.asked
