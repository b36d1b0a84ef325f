use Rattle.std.proofs.Common.{◌≡◌, refl, ap, rules, arith, None, length, min, max}
use Rattle.pair_core.specs.PairViews.{HostView}
use Rattle.pair_core.specs.Moments.{facts_of}
use Rattle.pair_core.proofs.Captured.{socket_dispatched, dispatch_fits, host_dispatched}
use Rattle.pair_core.proofs.host.Host.dispatch.Goals as goal

pub returns-clause-table : goal.returns-clause-table
returns-clause-table g c =
    let queued : length c.self.inside.socket.control_block.tx_buffer.bytes ≡ length c.args.self.now.control_block.tx_buffer.bytes =
    ap (λ (h : HostView _). length h.control_block.tx_buffer.bytes) c.self.view_is in
    host_dispatched g.G.TsvalSource.tells c.args.moment.now c.args.fail _ c.args.self.now _ c.into_sent.result c.dispatch-answer.new.self.control_block _ c.self.view_is c.dispatch-answer.ensures.generator c.into_sent.ensures
    (socket_dispatched _ _ c.args.fail (min c.args.moment.now.ip_mtu (max 1 (length c.args.self.now.control_block.tx_buffer.bytes))) (λ shown left s r h. record { kept = h.1.0; err = h.1.1 }) g.G.TsvalSource.tells c.self.inside.socket.tsval_generator (record { moment = c.args.moment.now; header = None; payload = c.args.room })
    c.dispatch-answer.new.cx c.self.inside.socket.control_block c.dispatch-answer.new.self.control_block (facts_of c.args.moment.now) c.dispatch-answer.result
    (record { header = refl; empty = c.requires.empty; len = search rules; room = c.requires.roomy }) (omega (arith, c.args.moment.now.mtu.0)) (omega (arith, queued)) c.dispatch-answer.ensures.table)

pub returns-clause-fits : goal.returns-clause-fits
returns-clause-fits g c =
    let x = returns-clause-table g c in
    dispatch_fits g.G.TsvalSource.tells c.args.self.now.source _ _ (facts_of c.args.moment.now) c.args.fail c.into_sent.result x.socket
