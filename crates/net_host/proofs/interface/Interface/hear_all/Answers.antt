use Rattle.std.proofs.Common.{rules, arith}
use Rattle.ip_wire.specs.contracts.address.IpAddressPartialEq.TheImpl.{eq-value}
use Rattle.net_host.specs.Polling.{NoneHeard, OneHeard}
use Rattle.net_host.proofs.Polled.{takes_enough, takes_no_more}
use Rattle.net_host.proofs.interface.Interface.hear_all.Goals as goal

pub loop-count-init : goal.loop-count-init
loop-count-init g c = record { within = search rules; heard = NoneHeard _ _ _ }

pub loop-count-preserved : goal.loop-count-preserved
loop-count-preserved g c = record { within = search rules; heard = OneHeard _ _ _ _ _ _ _ _ _ _ c.loop-count.invariant.heard (c.hear_next.ensures.heard c.if-hear_next.true) }

pub returns-else-hear_next-clause-heard : goal.returns-else-hear_next-clause-heard
returns-else-hear_next-clause-heard g c = takes_no_more eq-value.it g.W.Words.word_at g.G.TsvalSource.tells g.D.Device.receives g.D.Device.transmits c.args.now g.D.Device.has_room c.loop-count.count c.args.self.now c.args.sockets.now.slots.items c.args.device.now c.loop-count.self c.hear_next.new.self c.loop-count.sockets.slots.items c.hear_next.new.sockets.slots.items c.loop-count.device c.hear_next.new.device c.loop-count.invariant.heard (c.hear_next.ensures.none c.if-hear_next.false) (search rules)

pub returns-after-loop-count-clause-heard : goal.returns-after-loop-count-clause-heard
returns-after-loop-count-clause-heard g c = takes_enough eq-value.it g.W.Words.word_at g.G.TsvalSource.tells g.D.Device.receives g.D.Device.transmits c.args.now g.D.Device.has_room c.loop-count.count c.args.self.now c.args.sockets.now.slots.items c.args.device.now c.loop-count.self c.loop-count.sockets.slots.items c.loop-count.device c.loop-count.invariant.heard (omega (arith, c.loop-count.invariant.within))
