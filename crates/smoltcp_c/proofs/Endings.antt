-- Why a connection ended, as C is told it.
use Rattle.std.proofs.Common.{◌≡◌, refl, Option, Result, Ok, Err}
use Rattle.control_wire.specs.declared.tcp.TcpControl.{TcpControl}
use Rattle.sock_tcp.specs.Ended.{ended_by_opening, ended_by_segment}
use Rattle.sock_tcp.specs.declared.ended.Ended.{Ended}
use Rattle.sock_tcp.specs.declared.error.ConnectError.{ConnectError}
use Rattle.sock_tcp.specs.declared.error.ConnectError.TheVariants as connect_error
use Rattle.sock_tcp.specs.declared.error.ListenError.{ListenError}
use Rattle.sock_tcp.specs.declared.error.ListenError.TheVariants as listen_error
use Rattle.sock_tcp.specs.declared.state.State.{State}
use Rattle.sock_tcp.specs.declared.state.State.TheVariants as state
use Rattle.smoltcp_c.specs.Answers.{connect_answer, listen_answer}
use Rattle.smoltcp_c.specs.Ends.{ended_by_answer}

-- a segment that changes no state ends nothing
pub stays : (st : State) (c : TcpControl) (e : Option Ended) → e ≡ ended_by_segment st c st e
stays state.Closed c e = refl
stays state.Listen c e = refl
stays state.SynSent c e = refl
stays state.SynReceived c e = refl
stays state.Established c e = refl
stays state.FinWait1 c e = refl
stays state.FinWait2 c e = refl
stays state.CloseWait c e = refl
stays state.Closing c e = refl
stays state.LastAck c e = refl
stays state.TimeWait c e = refl

pub by_connect : (r : Result (Unit {0}) ConnectError) (e : Option Ended) → ended_by_opening r e ≡ ended_by_answer (connect_answer r) e
by_connect (Ok x) e = refl
by_connect (Err connect_error.InvalidState) e = refl
by_connect (Err connect_error.Unaddressable) e = refl

pub by_listen : (r : Result (Unit {0}) ListenError) (e : Option Ended) → ended_by_opening r e ≡ ended_by_answer (listen_answer r) e
by_listen (Ok x) e = refl
by_listen (Err listen_error.InvalidState) e = refl
by_listen (Err listen_error.Unaddressable) e = refl
