use Rattle.ip_wire.proofs.sum.ones_verify_for_zero.Goals as goal
use Rattle.ip_wire.proofs.Sums.{ones_for_zero}

pub returns : goal.returns
returns c = ones_for_zero
