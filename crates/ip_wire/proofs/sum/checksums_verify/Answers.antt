use Rattle.ip_wire.proofs.sum.checksums_verify.Goals as goal
use Rattle.ip_wire.proofs.Sums.{verifies}

pub returns : goal.returns
returns c = verifies
