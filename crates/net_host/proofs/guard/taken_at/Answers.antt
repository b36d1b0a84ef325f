use Rattle.std.proofs.Common.{rules}
use Rattle.net_host.proofs.Apart.{at_moment, other_moment}
use Rattle.net_host.proofs.guard.taken_at.Goals as goal

pub returns-then-moment-now : goal.returns-then-moment-now
returns-then-moment-now c = at_moment c.args.moment c.args.taken c.args.now c.requires (search rules)

pub returns-else-moment-now : goal.returns-else-moment-now
returns-else-moment-now c = other_moment c.args.moment c.args.taken c.args.now (search rules)
