use Rattle.std.proofs.Common.{◌≡◌, length}
use Rattle.net_base.specs.Packets.{skipped}
use Rattle.net_base.proofs.packet_buffer.PacketBuffer.skip_padding.Given as goal

abbrev pub invariant-loop-self : goal.invariant-loop-self
invariant-loop-self g l = skipped l.self ≡ skipped l.fn.self

abbrev pub decreases-loop-self : goal.decreases-loop-self
decreases-loop-self g l = length l.self.entries
