use Rattle.std.proofs.Common.{◌∙◌, ap, subst}
use Rattle.ip_wire.specs.contracts.address.IpAddressPartialEq.TheImpl.{eq-value}
use Rattle.net_host.specs.Receiving.{ByDatagram, datagram_in}
use Rattle.net_host.proofs.interface.Interface.take_udp.Goals as goal

pub returns-in-Some-clause-table : goal.returns-in-Some-clause-table
returns-in-Some-clause-table g c =
    subst (λ o. ByDatagram eq-value.it g.W.Words.word_at g.G.TsvalSource.tells c.args.ip.now c.args.bytes.now o c.args.self.now c.args.sockets.now.slots.items c.args.out.now c.take_datagram.result c.take_datagram.new.self c.take_datagram.new.sockets.slots.items c.take_datagram.new.out)
    (c.in-Some.ensures ∙ ap (λ caps. datagram_in caps c.args.ip.now c.args.bytes.now) c.checksum_caps-caps.ensures)
    c.take_datagram.ensures.table
