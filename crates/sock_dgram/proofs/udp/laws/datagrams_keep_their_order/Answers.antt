use Rattle.sock_dgram.proofs.UdpOrders.{in_order}
use Rattle.sock_dgram.proofs.udp.laws.datagrams_keep_their_order.Goals as goal

pub returns : goal.returns
returns g c = in_order g.C.Context.facts g.F.FnOnce g.G.FnOnce
