use Rattle.std.proofs.Common.{ap, map}
use Rattle.sock_core.specs.Received.{receiving}
use Rattle.sock_tcp.specs.Queue.{queue_of}
use Rattle.pair_core.specs.Holding.{stored_of}
use Rattle.pair_core.proofs.PairHosts.{new_is_pair}
use Rattle.pair_core.proofs.SocketCalls.{begins}
use Rattle.pair_core.proofs.pair.Pair.new.Goals as goal

pub invariant_of-result : goal.invariant_of-result
invariant_of-result g c =
    new_is_pair (receiving c.args.a.rx) (queue_of c.args.a.tx) (receiving c.args.b.rx) (queue_of c.args.b.tx) c.args.a.endpoint c.args.b.endpoint _ _ c.args.limit _ _ _ c.new.ensures.host c.new-2.ensures.host (ap (map stored_of) c.new-3.ensures.items)
    c.requires.a_rx.0 c.requires.a_tx.0 c.requires.b_rx.0 c.requires.b_tx.0 c.requires.a_reachable c.requires.b_reachable (begins c.args.a.rx c.args.a.tx c.requires.a_rx c.requires.a_tx) (begins c.args.b.rx c.args.b.tx c.requires.b_rx c.requires.b_tx) c.requires.versions c.requires.limit
