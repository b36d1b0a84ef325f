use Rattle.std.proofs.Common.{◌∙◌, ap, subst}
use Rattle.ip_wire.specs.contracts.address.IpAddressPartialEq.TheImpl.{eq-value}
use Rattle.ip_wire.specs.IpHeader.{next_header_of}
use Rattle.ip_wire.specs.Protocol.{number_of}
use Rattle.net_host.specs.Arrivals.{kind_of}
use Rattle.net_host.specs.Receiving.{ByKind}
use Rattle.net_host.proofs.interface.Interface.take_looked_at.Goals as goal

pub returns-clause-table : goal.returns-clause-table
returns-clause-table g c = record {
  seen = c.copy_packet.new.sockets.slots.items;
  copied = c.copy_packet.ensures.copied;
  taken = subst (λ k. ByKind eq-value.it g.W.Words.word_at g.G.TsvalSource.tells k c.args.ip.now c.args.bytes.now c.args.self.now c.copy_packet.new.sockets.slots.items c.args.out.now c.take_kind.result c.take_kind.new.self c.take_kind.new.sockets.slots.items c.take_kind.new.out) (c.kind_in-kind.ensures ∙ ap (λ b. kind_of b (number_of (next_header_of c.args.ip.now))) c.requires.own) c.take_kind.ensures.table;
}
