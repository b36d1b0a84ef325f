use Rattle.std.proofs.Common.{sym}
use Rattle.sock_core.proofs.Tables.{count_view, tidy_view}
use Rattle.sock_core.proofs.ranges.Ranges.len.Goals as goal

pub returns-clause-count : goal.returns-clause-count
returns-clause-count c = sym (count_view _ _ _ _ _ c.self.view_is c.self.invariant.0 c.self.invariant.1 c.self.invariant.2)

pub returns-clause-tidy : goal.returns-clause-tidy
returns-clause-tidy c = tidy_view _ _ _ _ _ c.self.view_is c.self.invariant.0 c.self.invariant.1 c.self.invariant.2 c.self.invariant.3
