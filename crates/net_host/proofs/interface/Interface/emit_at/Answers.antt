use Rattle.std.proofs.Common.{refl, subst, ap}
use Rattle.ip_wire.specs.contracts.address.IpAddressPartialEq.TheImpl.{eq-value}
use Rattle.net_host.specs.Facts.{facts_by}
use Rattle.net_host.specs.Speaking.{Speaks}
use Rattle.net_host.proofs.Telling.{tells_none, tells_then}
use Rattle.net_host.proofs.interface.Interface.emit_at.Goals as goal

pub returns-clause-table : goal.returns-clause-table
returns-clause-table g c = record {
  moved = c.set_now.new.self;
  moves = c.set_now.ensures;
  spoken = subst (λ k. Speaks (facts_by eq-value.it c.set_now.new.self.inner.environment) g.G.TsvalSource.tells c.args.self.now.guards c.args.sockets.now.slots.items c.set_now.new.self.turn k c.args.out.now c.speak.result c.speak.new.sockets.slots.items c.speak.new.turn c.speak.new.counters c.speak.new.out) c.set_now.ensures.counters
      (subst (λ st. Speaks (facts_by eq-value.it c.set_now.new.self.inner.environment) g.G.TsvalSource.tells st c.args.sockets.now.slots.items c.set_now.new.self.turn c.set_now.new.self.counters c.args.out.now c.speak.result c.speak.new.sockets.slots.items c.speak.new.turn c.speak.new.counters c.speak.new.out) c.set_now.ensures.guards
      (subst (λ ss. Speaks (facts_by eq-value.it c.set_now.new.self.inner.environment) g.G.TsvalSource.tells c.set_now.new.self.guards ss.items c.set_now.new.self.turn c.set_now.new.self.counters c.args.out.now c.speak.result c.speak.new.sockets.slots.items c.speak.new.turn c.speak.new.counters c.speak.new.out) c.heed.ensures.slots
      (subst (λ t. Speaks (facts_by eq-value.it c.set_now.new.self.inner.environment) g.G.TsvalSource.tells t.guards c.heed.new.self.slots.items c.set_now.new.self.turn c.set_now.new.self.counters c.args.out.now c.speak.result c.speak.new.sockets.slots.items c.speak.new.turn c.speak.new.counters c.speak.new.out) c.heed.ensures.terms c.speak.ensures.table)));
  inner = refl;
  resets = c.set_now.ensures.resets;
  errors = c.set_now.ensures.errors;
  guards = c.set_now.ensures.guards;
  cookies = c.set_now.ensures.cookies;
  groups = c.set_now.ensures.groups;
  most = c.set_now.ensures.most;
}

pub returns-clause-ends : goal.returns-clause-ends
returns-clause-ends g c = tells_then _ _ _ _ _ _ (tells_none _ _ _ _ (ap (λ v. v.items) c.heed.ensures.slots) c.heed.ensures.ended) c.speak.ensures.ends
