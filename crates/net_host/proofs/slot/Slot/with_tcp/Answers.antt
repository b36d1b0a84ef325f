use Rattle.std.proofs.Common.{rules, ◌≡◌, ◌∙◌, Some, refl, ap}
use Rattle.std.specs.Fn.{FnOnceReturnsAtMut}
use Rattle.smoltcp_socket.specs.declared.socket.Socket.TheVariants as socket
use Rattle.net_host.proofs.slot.Slot.with_tcp.Goals as goal

pub returns-in-Some-Tcp-clause-called : goal.returns-in-Some-Tcp-clause-called
returns-in-Some-Tcp-clause-called g c =
    let is : c.args.self.now.generation ≡ c.args.generation = search rules in
    let called : FnOnceReturnsAtMut g.F.FnOnce c.args.f c.in-Some-Tcp.tcp c.f.result c.f.new.arg2 = search rules in
    record {
      generation = is;
      any = socket.Tcp c.in-Some-Tcp.tcp;
      there = c.in-Some-Tcp.is ∙ ap (λ s. Some s) c.in-Some-Tcp.field-0-is;
      socket = c.in-Some-Tcp.tcp;
      is = refl;
      left = c.f.new.arg2;
      called = called;
      now = refl;
    }
