use Rattle.std.proofs.Common.{◌∙◌, ap, subst}
use Rattle.ip_wire.specs.contracts.address.IpAddressPartialEq.TheImpl.{eq-value}
use Rattle.net_host.specs.Messages.{mail_in}
use Rattle.net_host.specs.Receiving.{ByMail}
use Rattle.net_host.proofs.interface.Interface.take_message.Goals as goal

pub returns-in-Some-clause-table : goal.returns-in-Some-clause-table
returns-in-Some-clause-table g c =
    subst (λ o. ByMail eq-value.it g.W.Words.word_at g.G.TsvalSource.tells c.args.heard o c.args.self.now c.args.sockets.now.slots.items c.args.out.now c.take_mail.result c.args.self.now c.take_mail.new.sockets.slots.items c.take_mail.new.out)
    (c.in-Some.ensures ∙ ap (λ caps. mail_in caps c.args.ip.now c.args.bytes.now) c.checksum_caps-caps.ensures)
    c.take_mail.ensures.table
