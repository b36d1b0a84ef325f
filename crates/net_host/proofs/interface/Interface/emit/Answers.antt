use Rattle.ip_wire.specs.contracts.address.IpAddressPartialEq.TheImpl.{eq-value}
use Rattle.net_host.specs.Facts.{facts_by}
use Rattle.net_host.proofs.Firsts.{none_due_yet}
use Rattle.net_host.proofs.interface.Interface.emit.Goals as goal

pub returns-clause-later : goal.returns-clause-later
returns-clause-later g c = λ e. none_due_yet (facts_by eq-value.it c.emit_at.new.self.inner.environment) c.emit_at.new.sockets.slots.items (c.emit_at.ensures.quiet e)
