use Rattle.sock_dgram.specs.UdpDispatch.{outgoing, outgoing_of}
use Rattle.smoltcp_c.specs.Context.{facts_in}
use Rattle.smoltcp_c.specs.Udp.{CountsDatagram, datagram_len, datagram_packet}
use Rattle.smoltcp_c.proofs.Sending.{dispatched}
use Rattle.smoltcp_c.proofs.UdpSending.{counted}
use Rattle.smoltcp_c.proofs.datagram_packets.emitted_by_udp.Goals as goal

pub returns-clause-table : goal.returns-clause-table
returns-clause-table c =
    (dispatched datagram_len datagram_packet (λ o. CountsDatagram o.ip o.payload) outgoing_of _ _ (λ shown left s r h. h.1) (λ v. outgoing v (facts_in c.args.wire.now.moment.cx)) c.args.wire.now c.dispatch.new.cx c.args.socket.now c.dispatch.new.self c.dispatch.result c.requires (counted c.args.socket.now (facts_in c.args.wire.now.moment.cx)) c.dispatch.ensures.table).0

pub returns-clause-same_buffer : goal.returns-clause-same_buffer
returns-clause-same_buffer c =
    (dispatched datagram_len datagram_packet (λ o. CountsDatagram o.ip o.payload) outgoing_of _ _ (λ shown left s r h. h.1) (λ v. outgoing v (facts_in c.args.wire.now.moment.cx)) c.args.wire.now c.dispatch.new.cx c.args.socket.now c.dispatch.new.self c.dispatch.result c.requires (counted c.args.socket.now (facts_in c.args.wire.now.moment.cx)) c.dispatch.ensures.table).1
