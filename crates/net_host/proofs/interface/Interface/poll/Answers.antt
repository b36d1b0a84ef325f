use Rattle.std.proofs.Common.{refl, subst}
use Rattle.net_host.specs.Polling.{FitsTo}
use Rattle.net_host.proofs.interface.Interface.poll.Goals as goal

pub returns-clause-polled : goal.returns-clause-polled
returns-clause-polled g c = record {
  fitted = c.fit.new.self;
  fits = subst (λ m. FitsTo m c.args.self.now c.fit.new.self) c.max_transmission_unit-mtu.ensures c.fit.ensures;
  heard = c.hear_all-heard.result;
  between = c.hear_all-heard.new.self;
  seen = c.hear_all-heard.new.sockets.slots.items;
  mid = c.hear_all-heard.new.device;
  hears = c.hear_all-heard.ensures.heard;
  spoken = c.emit_all-spoken.result;
  emits = c.emit_all-spoken.ensures.emitted;
  both = refl;
}
