use Rattle.pair_core.proofs.StreamTables.{emit_moves}
use Rattle.pair_core.proofs.streams.snd_nxt_after_an_emit.Goals as goal

pub returns : goal.returns
returns c = emit_moves
