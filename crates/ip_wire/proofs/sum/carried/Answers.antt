use Rattle.std.proofs.Common.{refl}
use Rattle.ip_wire.proofs.Sums.{carried_swapped}
use Rattle.ip_wire.proofs.sum.carried.Goals as goal

pub returns : goal.returns
returns c = λ start. carried_swapped start c.args.total _ refl
