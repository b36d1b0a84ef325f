-- The texts of the errors of datagram sockets.
use Rattle.std.specs.Prelude.{ℕ, List, codes}
use Rattle.sock_dgram.specs.declared.error.BindError.{BindError}
use Rattle.sock_dgram.specs.declared.error.BindError.TheVariants as bind_error
use Rattle.sock_dgram.specs.declared.error.SendError.{SendError}
use Rattle.sock_dgram.specs.declared.error.SendError.TheVariants as send_error
use Rattle.sock_dgram.specs.declared.raw.error.SendError.{SendError as RawSendError}
use Rattle.sock_dgram.specs.declared.raw.error.SendError.TheVariants as raw_send_error
use Rattle.sock_dgram.specs.declared.error.RecvError.{RecvError}
use Rattle.sock_dgram.specs.declared.error.RecvError.TheVariants as recv_error

abbrev pub bind_error_text : BindError → List ℕ
bind_error_text bind_error.InvalidState = codes "invalid state"
bind_error_text bind_error.Unaddressable = codes "unaddressable"

abbrev pub send_error_text : SendError → List ℕ
send_error_text send_error.Unaddressable = codes "unaddressable"
send_error_text send_error.BufferFull = codes "buffer full"

abbrev pub recv_error_text : RecvError → List ℕ
recv_error_text recv_error.Exhausted = codes "exhausted"
recv_error_text recv_error.Truncated = codes "truncated"

abbrev pub raw_send_error_text : RawSendError → List ℕ
raw_send_error_text raw_send_error.BufferFull = codes "buffer full"
