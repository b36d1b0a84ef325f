use Rattle.std.proofs.Common.{◌-◌, ◌≤◌}
use Rattle.ip_wire.specs.contracts.address.IpAddressPartialEq.TheImpl.{eq-value}
use Rattle.net_host.specs.Polling.{EmitsAll}
use Rattle.net_host.proofs.interface.Interface.emit_all.Given as goal

abbrev pub invariant-loop-count : goal.invariant-loop-count
invariant-loop-count g l = record {
  within : l.count ≤ 64;
  emitted : EmitsAll eq-value.it g.G.TsvalSource.tells g.D.Device.transmits l.now l.count l.fn.self l.fn.sockets.slots.items l.fn.device l.self l.sockets.slots.items l.device;
}

abbrev pub decreases-loop-count : goal.decreases-loop-count
decreases-loop-count g l = 64 - l.count
