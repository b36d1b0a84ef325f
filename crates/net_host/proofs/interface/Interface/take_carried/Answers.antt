use Rattle.std.proofs.Common.{◌∙◌, sym, subst}
use Rattle.ip_wire.specs.contracts.address.IpAddressPartialEq.TheImpl.{eq-value}
use Rattle.net_host.specs.Receiving.{ByAddresses}
use Rattle.net_host.proofs.interface.Interface.take_carried.Goals as goal

pub returns-in-None-clause-table : goal.returns-in-None-clause-table
returns-in-None-clause-table g c =
    subst (λ o. ByAddresses eq-value.it g.W.Words.word_at g.G.TsvalSource.tells o c.args.ip.now c.args.bytes.now c.args.self.now c.args.sockets.now.slots.items c.args.out.now c.take_looked_at.result c.take_looked_at.new.self c.take_looked_at.new.sockets.slots.items c.take_looked_at.new.out)
    (sym c.in-None.is ∙ c.refusal.ensures) c.take_looked_at.ensures.table
