-- What the calls that open a socket of a host answer.
use Rattle.std.specs.Prelude.{ℕ, ℤ, pos, Result, Ok, Err}
use Rattle.net_host.specs.declared.opening.OpenError.{OpenError}
use Rattle.net_host.specs.declared.opening.OpenError.TheVariants as open_error
use Rattle.smoltcp_c.specs.Answers.{error_address, error_in_use, error_socket, error_state}

abbrev pub refusal : OpenError → ℤ
refusal open_error.Unaddressable = error_address
refusal open_error.InUse = error_in_use
refusal open_error.NoSocket = error_socket
refusal open_error.InvalidState = error_state

abbrev pub opened_answer : {A : Type 0} → Result A OpenError → ℤ
opened_answer (Ok x) = pos 0
opened_answer (Err e) = refusal e

-- the port
abbrev pub bound_answer : Result ℕ OpenError → ℤ
bound_answer (Ok port) = pos port
bound_answer (Err e) = refusal e
