-- What a socket still has to do.
use Rattle.std.specs.Prelude.{length, is_some, Bool, true, false, not, ◌==◌}
use Rattle.sock_tcp.specs.View.{View}
use Rattle.sock_tcp.specs.declared.state.State.{State}
use Rattle.sock_tcp.specs.declared.state.State.TheVariants as state

-- ---- work

-- by state; peer: there is one, empty: the transmit queue is, paused: a SYN|ACK has to wait
abbrev pub works_in : State → Bool → Bool → Bool → Bool
works_in state.Closed peer empty paused = peer
works_in state.Listen peer empty paused = false
works_in state.SynSent peer empty paused = true
works_in state.SynReceived peer empty paused = not paused
works_in state.Established peer empty paused = not empty
works_in state.FinWait1 peer empty paused = true
works_in state.FinWait2 peer empty paused = false
works_in state.CloseWait peer empty paused = not empty
works_in state.Closing peer empty paused = true
works_in state.LastAck peer empty paused = true
works_in state.TimeWait peer empty paused = true

-- bytes, a SYN, a FIN or an RST are still to be sent, or their acknowledgement is missing, or TIME-WAIT is to end
unfoldable pub has_work : View → Bool
has_work v = works_in v.state (is_some v.tuple) (length v.tx_buffer.bytes == 0) v.synack_paused
