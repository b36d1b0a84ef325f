use Rattle.std.proofs.Common.{◌≡◌, Some, rules, subst}
use Rattle.control_wire.specs.Segment.{segment_of}
use Rattle.smoltcp_socket.specs.declared.socket.Socket.TheVariants as socket
use Rattle.net_host.specs.Resting.{RestsIn}
use Rattle.net_host.proofs.Again.{again}
use Rattle.net_host.proofs.slot.Slot.hear_anew.Goals as goal

pub process-requires-clause-accepted : goal.process-requires-clause-accepted
process-requires-clause-accepted g c =
    let is : c.args.self.now.socket ≡ Some (socket.Tcp c.in-Some-Tcp.tcp) = search rules in
    again c.in-Some-Tcp.tcp.control_block c.listen.new.self.control_block _ _ c.args.ip.now (segment_of c.args.repr.now) c.listen_endpoint.ensures (subst (λ o. RestsIn o c.args.ip.now (segment_of c.args.repr.now)) is c.requires.rests) c.requires.opening c.listen.ensures.table
