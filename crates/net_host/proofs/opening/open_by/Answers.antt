use Rattle.std.proofs.Common.{◌%◌, ◌^◌, subst}
use Rattle.net_host.specs.Openings.{FindsPort}
use Rattle.net_host.proofs.opening.open_by.Goals as goal

pub returns : goal.returns
returns g c =
    let found = subst (λ n. FindsPort c.args.addr c.args.port c.args.remote c.deref.result.now n c.find_port-port.result) c.draw_start-start.ensures.start c.find_port-port.ensures in
    record {
      port = c.find_port-port.result;
      drawn = c.draw_start-start.new.cx;
      draws = c.draw_start-start.ensures.draws;
      finds = subst (λ ss. FindsPort c.args.addr c.args.port c.args.remote ss (g.C.Context.word_at c.args.cx.now 0 % 2 ^ 16) c.find_port-port.result) c.deref.ensures.value found;
      opens = c.open_from.ensures;
    }
