use Rattle.std.proofs.Common.{rules}
use Rattle.net_base.proofs.PacketLists.{padded_place, padded_room}
use Rattle.net_base.proofs.packet_buffer.PacketBuffer.pad_for.Goals as goal

pub returns-clause-room : goal.returns-clause-room
returns-clause-room g c = λ fits. (
  padded_room _ _ _ _ _ c.append.ensures.after c.run_len-run.ensures.run c.room.ensures c.run_len-run.ensures.start c.run_len-run.ensures.taken c.if-size-run.false c.if-room-run.false,
  padded_place _ _ _ c.append.ensures.after (search rules),
)
