use Rattle.std.proofs.Common.{arith}
use Rattle.control_wire.specs.Segment.{segment_of}
use Rattle.smoltcp_c.proofs.Reading.{filled_short}
use Rattle.smoltcp_c.proofs.packets.read.Goals as goal

pub returns-clause-short : goal.returns-clause-short
returns-clause-short c = λ h.
    filled_short c.args.packet.now (λ i. omega (arith, c.type_inv.packet i)) c.default.result c.read_tcp.new.ip (segment_of c.read_tcp.new.repr) c.read_tcp.result c.read_tcp.ensures h
