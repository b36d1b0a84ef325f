use Rattle.smoltcp_c.proofs.Counts.{send_small}
use Rattle.smoltcp_c.proofs.streams.smoltcp_tcp_send_nonnull.Goals as goal

pub send_answer-requires : goal.send_answer-requires
send_answer-requires c = send_small _ _ _ _ c.send_queue.ensures.small c.send_slice.ensures.table
