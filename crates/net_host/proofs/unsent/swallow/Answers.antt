use Rattle.net_host.specs.Unsent.{swallowing}
use Rattle.net_host.proofs.Emitting.{dispatches}
use Rattle.net_host.proofs.unsent.swallow.Goals as goal

pub returns-clause-table : goal.returns-clause-table
returns-clause-table g c = dispatches (λ cx. cx) _ _ swallowing tt (λ shown left s r h. h.1) _ g.G.TsvalSource.tells _ _ _ _ _ _ c.dispatch.ensures.table
