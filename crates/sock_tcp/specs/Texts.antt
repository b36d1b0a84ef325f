-- The texts of states and errors.
use Rattle.std.specs.Prelude.{ℕ, List, codes}
use Rattle.sock_tcp.specs.declared.state.State.{State}
use Rattle.sock_tcp.specs.declared.state.State.TheVariants as state
use Rattle.sock_tcp.specs.declared.error.ListenError.{ListenError}
use Rattle.sock_tcp.specs.declared.error.ListenError.TheVariants as listen_error
use Rattle.sock_tcp.specs.declared.error.ConnectError.{ConnectError}
use Rattle.sock_tcp.specs.declared.error.ConnectError.TheVariants as connect_error
use Rattle.sock_tcp.specs.declared.error.SendError.{SendError}
use Rattle.sock_tcp.specs.declared.error.SendError.TheVariants as send_error
use Rattle.sock_tcp.specs.declared.error.RecvError.{RecvError}
use Rattle.sock_tcp.specs.declared.error.RecvError.TheVariants as recv_error

abbrev pub state_text : State → List ℕ
state_text state.Closed = codes "CLOSED"
state_text state.Listen = codes "LISTEN"
state_text state.SynSent = codes "SYN-SENT"
state_text state.SynReceived = codes "SYN-RECEIVED"
state_text state.Established = codes "ESTABLISHED"
state_text state.FinWait1 = codes "FIN-WAIT-1"
state_text state.FinWait2 = codes "FIN-WAIT-2"
state_text state.CloseWait = codes "CLOSE-WAIT"
state_text state.Closing = codes "CLOSING"
state_text state.LastAck = codes "LAST-ACK"
state_text state.TimeWait = codes "TIME-WAIT"

abbrev pub listen_error_text : ListenError → List ℕ
listen_error_text listen_error.InvalidState = codes "invalid state"
listen_error_text listen_error.Unaddressable = codes "unaddressable destination"

abbrev pub connect_error_text : ConnectError → List ℕ
connect_error_text connect_error.InvalidState = codes "invalid state"
connect_error_text connect_error.Unaddressable = codes "unaddressable destination"

abbrev pub send_error_text : SendError → List ℕ
send_error_text send_error.InvalidState = codes "invalid state"

abbrev pub recv_error_text : RecvError → List ℕ
recv_error_text recv_error.InvalidState = codes "invalid state"
recv_error_text recv_error.Finished = codes "operation finished"
