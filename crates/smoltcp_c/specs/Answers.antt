-- The numbers that the calls answer.
use Rattle.std.specs.Prelude.{ℕ, ℤ, Bool, true, false, IfOk, pos, negsuc, ◌≤◌, ◌^◌, min, Result, Ok, Err}
use Rattle.sock_tcp.specs.declared.state.State.{State}
use Rattle.sock_tcp.specs.declared.state.State.TheVariants as state
use Rattle.smoltcp_c.specs.declared.wire.Full.{Full}
use Rattle.sock_tcp.specs.declared.error.ListenError.{ListenError}
use Rattle.sock_tcp.specs.declared.error.ListenError.TheVariants as listen_error
use Rattle.sock_tcp.specs.declared.error.ConnectError.{ConnectError}
use Rattle.sock_tcp.specs.declared.error.ConnectError.TheVariants as connect_error
use Rattle.sock_dgram.specs.declared.error.BindError.{BindError}
use Rattle.sock_dgram.specs.declared.error.BindError.TheVariants as bind_error
use Rattle.sock_dgram.specs.declared.error.RecvError.{RecvError as CopyError}
use Rattle.sock_dgram.specs.declared.error.RecvError.TheVariants as copy_error
use Rattle.sock_dgram.specs.declared.error.SendError.{SendError as DatagramError}
use Rattle.sock_dgram.specs.declared.error.SendError.TheVariants as datagram_error
use Rattle.sock_tcp.specs.declared.error.SendError.{SendError}
use Rattle.sock_tcp.specs.declared.error.RecvError.{RecvError}
use Rattle.sock_tcp.specs.declared.error.RecvError.TheVariants as recv_error

abbrev pub error_context : ℤ
error_context = negsuc 4

abbrev pub error_range : ℤ
error_range = negsuc 8

abbrev pub not_accepted : ℤ
not_accepted = negsuc 7

abbrev pub error_state : ℤ
error_state = negsuc 0

abbrev pub error_address : ℤ
error_address = negsuc 1

abbrev pub listen_answer : {U : Type 0} → Result U ListenError → ℤ
listen_answer (Ok u) = pos 0
listen_answer (Err listen_error.InvalidState) = error_state
listen_answer (Err listen_error.Unaddressable) = error_address

abbrev pub connect_answer : {U : Type 0} → Result U ConnectError → ℤ
connect_answer (Ok u) = pos 0
connect_answer (Err connect_error.InvalidState) = error_state
connect_answer (Err connect_error.Unaddressable) = error_address

-- a count of bytes that is at most 2^30
abbrev pub UpTo30 : {E : Type 0} → Result ℕ E → Type 0
UpTo30 r = IfOk r (λ n. n ≤ 2 ^ 30)

abbrev pub send_answer : Result ℕ SendError → ℤ
send_answer (Ok n) = pos n
send_answer (Err e) = error_state

abbrev pub error_finished : ℤ
error_finished = negsuc 2

abbrev pub recv_answer : Result ℕ RecvError → ℤ
recv_answer (Ok n) = pos n
recv_answer (Err recv_error.InvalidState) = error_state
recv_answer (Err recv_error.Finished) = error_finished

abbrev pub error_room : ℤ
error_room = negsuc 5

-- what a dispatch answers, of its emit and the length that was written: 65535 at most
abbrev pub sent_answer : Result (Unit {0}) Full → ℕ → ℤ
sent_answer (Ok u) n = pos (min n 65535)
sent_answer (Err e) n = error_room

abbrev pub flag_answer : Bool → ℤ
flag_answer false = pos 0
flag_answer true = pos 1

abbrev pub state_answer : State → ℤ
state_answer state.Closed = pos 0
state_answer state.Listen = pos 1
state_answer state.SynSent = pos 2
state_answer state.SynReceived = pos 3
state_answer state.Established = pos 4
state_answer state.FinWait1 = pos 5
state_answer state.FinWait2 = pos 6
state_answer state.CloseWait = pos 7
state_answer state.Closing = pos 8
state_answer state.LastAck = pos 9
state_answer state.TimeWait = pos 10

abbrev pub bind_answer : {U : Type 0} → Result U BindError → ℤ
bind_answer (Ok u) = pos 0
bind_answer (Err bind_error.InvalidState) = error_state
bind_answer (Err bind_error.Unaddressable) = error_address

abbrev pub error_empty : ℤ
error_empty = negsuc 10

abbrev pub error_memory : ℤ
error_memory = negsuc 11

abbrev pub error_socket : ℤ
error_socket = negsuc 12

abbrev pub error_in_use : ℤ
error_in_use = negsuc 13

-- a packet that is copied out of a queue: how many bytes it has
abbrev pub refused_copy : CopyError → ℤ
refused_copy copy_error.Exhausted = error_empty
refused_copy copy_error.Truncated = error_room

abbrev pub copied_answer : {M : Type 0} → Result (ℕ × M) CopyError → ℤ
copied_answer (Ok r) = pos r.0
copied_answer (Err e) = refused_copy e

abbrev pub datagram_answer : {U : Type 0} → Result U DatagramError → ℤ
datagram_answer (Ok u) = pos 0
datagram_answer (Err datagram_error.Unaddressable) = error_address
datagram_answer (Err datagram_error.BufferFull) = error_room
