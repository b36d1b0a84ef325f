-- A TCP socket as C holds it.
use Rattle.std.specs.Prelude.{ℕ, ℤ, pos, negsuc, ◌^◌, min, List, ◌≡◌, Bool, if◌then◌else◌, Option, Some, None}
use Rattle.net_base.specs.declared.time.Duration.{Duration}
use Rattle.sock_tcp.specs.declared.rules.Rules.{Rules}
use Rattle.sock_tcp.specs.declared.rules.Rules.TheVariants as rules
use Rattle.sock_tcp.specs.declared.settings.CongestionControl.{CongestionControl}
use Rattle.sock_tcp.specs.declared.settings.CongestionControl.TheVariants as congestion
use Rattle.smoltcp_c.specs.declared.clock.Clock.{Clock}
use Rattle.sock_tcp.specs.declared.ended.Ended.{Ended}
use Rattle.sock_tcp.specs.Opening.{is_open, rules_set}
use Rattle.sock_core.specs.Received.{Received}
use Rattle.sock_tcp.specs.Queue.{Queue}
use Rattle.sock_tcp.specs.Rfc.UserTimeout.{usual_timeout}
use Rattle.sock_tcp.specs.View.{View, fresh}
use Rattle.smoltcp_c.specs.Answers.{error_state}
use Rattle.smoltcp_c.specs.declared.handles.TcpHandle.{TcpHandle}

abbrev pub view : TcpHandle → View
view h = h.socket.control_block

-- what init makes: a new socket, by the RFCs' rules, with their user timeout
abbrev pub made_over : Received → Queue → View
made_over rx tx = record (fresh rx tx) { rules = rules.Rfc; timeout = Some usual_timeout }

abbrev pub clock : TcpHandle → Option Clock
clock h = h.socket.tsval_generator

abbrev pub ended : TcpHandle → Option Ended
ended h = h.socket.ended

-- the same handle, at the same place, whose socket became v, with this clock and this end
pub record IsSocket (h : TcpHandle) (v : View) (c : Option Clock) (e : Option Ended) (h' : TcpHandle) : Type 0 where
  pub at : h'.at ≡ h.at
  pub view : h'.socket.control_block ≡ v
  pub clock : h'.socket.tsval_generator ≡ c
  pub ended : h'.socket.ended ≡ e

-- with the end that it told
abbrev pub IsBoth : TcpHandle → View → Option Clock → TcpHandle → Type 0
IsBoth h v c h' = IsSocket h v c (ended h) h'

-- with the clock that it had
abbrev pub IsView : TcpHandle → View → TcpHandle → Type 0
IsView h v h' = IsBoth h v (clock h) h'

-- the call answered the number of what its table answers
pub record Answers {R : Type 0} (number : R → ℤ) (table : R → Type 0) (result : ℤ) : Type 0 where
  pub answer : R
  pub met : table answer
  pub numbered : result ≡ number answer

-- a clock that stands at this number, where there is a clock
abbrev pub clock_at : Option Clock → ℕ → Option Clock
clock_at None n = None
clock_at (Some c) n = Some (record { tsval = n })

-- the number of an answer, and nothing changed
abbrev pub Refuses : ℤ → TcpHandle → ℤ → TcpHandle → Type 0
Refuses error h result h' = (result ≡ error) × (h' ≡ h)

-- the call was done, and the socket is then v
abbrev pub Sets : TcpHandle → View → ℤ → TcpHandle → Type 0
Sets h v result h' = (result ≡ pos 0) × IsView h v h'

abbrev pub clock_set : Bool → ℕ → Option Clock
clock_set enabled n = if enabled then Some (record { tsval = n }) else None

-- at most 2^61, which no setting is above
abbrev pub micros_told : Option Duration → ℤ
micros_told None = negsuc 0
micros_told (Some d) = pos (min d.micros (2 ^ 61))

abbrev pub byte_told : Option ℕ → ℤ
byte_told None = pos 0
byte_told (Some n) = pos n

abbrev pub kind_told : CongestionControl → ℤ
kind_told congestion.None = pos 0
kind_told congestion.Reno = pos 1
kind_told congestion.Cubic = pos 2

abbrev pub rules_told : Rules → ℤ
rules_told rules.Smoltcp = pos 0
rules_told rules.Rfc = pos 1

-- an open socket keeps its rules, and the call answers an error
abbrev pub SetsRules : TcpHandle → Rules → ℤ → TcpHandle → Type 0
SetsRules h r result h' =
    (result ≡ (if is_open (view h).state then error_state else pos 0)) × IsView h (rules_set (view h) r) h'

-- the call answered an error, and neither the socket nor the buffer changed
abbrev pub RefusesFor : ℤ → TcpHandle → List ℕ → ℤ → TcpHandle → List ℕ → Type 0
RefusesFor error h out result h' out' = (result ≡ error) × (h' ≡ h) × (out' ≡ out)
