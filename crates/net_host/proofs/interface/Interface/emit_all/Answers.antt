use Rattle.std.proofs.Common.{rules, subst, arith}
use Rattle.ip_wire.specs.contracts.address.IpAddressPartialEq.TheImpl.{eq-value}
use Rattle.net_host.specs.Polling.{Emits, NobodyDue, NoRoom, NoneSent, OneSent}
use Rattle.net_host.proofs.Polled.{stops}
use Rattle.net_host.proofs.interface.Interface.emit_all.Goals as goal

pub loop-count-init : goal.loop-count-init
loop-count-init g c = record { within = search rules; emitted = NoneSent _ _ _ }

pub loop-count-preserved : goal.loop-count-preserved
loop-count-preserved g c = record { within = search rules; emitted = OneSent _ _ _ _ _ _ _ _ _ _ c.loop-count.invariant.emitted (subst (λ b. Emits eq-value.it g.G.TsvalSource.tells g.D.Device.transmits c.args.now b c.loop-count.self c.loop-count.sockets.slots.items c.loop-count.device c.emit_next.new.self c.emit_next.new.sockets.slots.items c.emit_next.new.device) c.if-not-emit_next.false c.emit_next.ensures.emitted) }

pub returns-then-not-emit_next-clause-emitted : goal.returns-then-not-emit_next-clause-emitted
returns-then-not-emit_next-clause-emitted g c = NobodyDue _ _ _ _ _ _ _ _ _ _ (omega arith) c.loop-count.invariant.emitted (search rules) (subst (λ b. Emits eq-value.it g.G.TsvalSource.tells g.D.Device.transmits c.args.now b c.loop-count.self c.loop-count.sockets.slots.items c.loop-count.device c.emit_next.new.self c.emit_next.new.sockets.slots.items c.emit_next.new.device) c.if-not-emit_next.true c.emit_next.ensures.emitted)

pub returns-else-has_room-clause-emitted : goal.returns-else-has_room-clause-emitted
returns-else-has_room-clause-emitted g c = NoRoom _ _ _ _ _ _ _ (omega arith) c.loop-count.invariant.emitted (search rules)

pub returns-after-loop-count-clause-emitted : goal.returns-after-loop-count-clause-emitted
returns-after-loop-count-clause-emitted g c = stops _ _ _ _ _ _ _ _ _ _ _ _ c.loop-count.invariant.within c.loop-count.invariant.emitted (λ h. absurd (omega (arith, h)))
