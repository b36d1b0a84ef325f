use Rattle.ip_wire.proofs.sum.sums_continue.Goals as goal
use Rattle.ip_wire.proofs.Sums.{continues}

pub returns : goal.returns
returns c = continues
