use Rattle.std.proofs.Common.{rules}
use Rattle.smoltcp_c.proofs.Refused.{raw_stays}
use Rattle.smoltcp_c.proofs.datagrams.smoltcp_raw_send_nonnull.Goals as goal

pub returns-clause-refused : goal.returns-clause-refused
returns-clause-refused c = λ refuses.
    raw_stays c.args.h.now c.socket.result.now c.send_slice.new.self c.args.data.now c.send_slice.result c.packet_answer.result _ c.socket.ensures.value c.send_slice.ensures.answer c.send_slice.ensures.view c.packet_answer.ensures (search rules) refuses
