use Rattle.smoltcp_c.proofs.Counts.{recv_small}
use Rattle.smoltcp_c.proofs.streams.smoltcp_tcp_recv_nonnull.Goals as goal

pub recv_answer-requires : goal.recv_answer-requires
recv_answer-requires c = recv_small _ _ _ _ _ c.recv_queue.ensures.small c.recv_slice.ensures.table
