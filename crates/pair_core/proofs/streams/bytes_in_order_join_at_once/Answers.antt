use Rattle.std.proofs.Common.{refl}
use Rattle.pair_core.proofs.StreamCut.{at_once}
use Rattle.pair_core.proofs.streams.bytes_in_order_join_at_once.Goals as goal

pub returns : goal.returns
returns c = λ v w bytes gathers. at_once v w 0 bytes refl gathers
