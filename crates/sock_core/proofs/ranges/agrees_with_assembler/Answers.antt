use Rattle.sock_core.proofs.Tables.{agree}
use Rattle.sock_core.proofs.ranges.agrees_with_assembler.Goals as goal

pub returns : goal.returns
returns c = agree
