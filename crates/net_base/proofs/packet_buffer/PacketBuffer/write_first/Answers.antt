use Rattle.net_base.proofs.Entries.{laid_written, writes_first}
use Rattle.net_base.proofs.packet_buffer.PacketBuffer.write_first.Goals as goal

pub invariant_of-self : goal.invariant_of-self
invariant_of-self g c = laid_written _ _ _ _ _ c.self.view_is c.self.invariant _ _ c.front-size.ensures _ _ _ c.lend_packet.ensures

pub returns : goal.returns
returns g c = writes_first _ _ _ _ _ c.self.view_is c.self.invariant _ _ c.front-size.ensures _ _ _ c.lend_packet.ensures
