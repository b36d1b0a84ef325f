use Rattle.std.proofs.Common.{◌%◌, ◌^◌, subst}
use Rattle.net_host.specs.Bindings.{FindsBinding}
use Rattle.net_host.proofs.binding.bind_by.Goals as goal

pub returns : goal.returns
returns g c =
    let found = subst (λ n. FindsBinding c.args.endpoint.port c.deref.result.now n c.find_binding-port.result) c.draw_start-start.ensures.start c.find_binding-port.ensures in
    record {
      port = c.find_binding-port.result;
      draws = c.draw_start-start.ensures.draws;
      finds = subst (λ ss. FindsBinding c.args.endpoint.port ss (g.C.Context.word_at c.args.cx.now 0 % 2 ^ 16) c.find_binding-port.result) c.deref.ensures.value found;
      binds = c.bind_from.ensures;
    }
