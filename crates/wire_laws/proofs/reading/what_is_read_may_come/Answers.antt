use Rattle.std.proofs.Common.{arith}
use Rattle.wire_laws.proofs.Comings.{comes}
use Rattle.wire_laws.proofs.reading.what_is_read_may_come.Goals as goal

pub returns-clause-may_come : goal.returns-clause-may_come
returns-clause-may_come c = comes c.args.caps.now c.args.packet.now _ (λ i. omega (arith, c.type_inv.packet i)) c.parse_tcp.ensures
