use Rattle.std.proofs.Common.{rules, refl}
use Rattle.net_host.specs.Polling.{Full}
use Rattle.net_host.proofs.Polled.{silent}
use Rattle.net_host.proofs.interface.Interface.hear_next.Goals as goal

pub returns-then-not-has_room-clause-none : goal.returns-then-not-has_room-clause-none
returns-then-not-has_room-clause-none g c = λ _. (refl, refl, Full c.args.device.now (search rules))

pub returns-then-len-eq0-clause-none : goal.returns-then-len-eq0-clause-none
returns-then-len-eq0-clause-none g c = λ _. (refl, refl, silent g.D.Device.has_room g.D.Device.receives c.receive-len.result c.args.device.now c.receive-len.new.self c.receive-len.new.packet (search rules) (search rules) c.receive-len.ensures.arrived)
