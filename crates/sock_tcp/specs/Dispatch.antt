-- `dispatch` whole.
use Rattle.std.specs.Prelude.{◌≡◌, ℕ, List, Result, Ok, is_ok, Option, Some, None, is_some, MatchOption, IsSomeAnd}
use Rattle.std.specs.Prelude.{option_map}
use Rattle.std.specs.Option.{ForSome}
use Rattle.ip_wire.specs.declared.repr.IpRepr.{IpRepr}
use Rattle.control_wire.specs.Fits.{FitsPacket}
use Rattle.control_wire.specs.Segment.{Segment}
use Rattle.control_wire.specs.declared.tcp.TcpRepr.{TcpRepr}
use Rattle.sock_core.specs.Emission.{Emit, Emits}
use Rattle.sock_core.specs.Facts.{Facts}
use Rattle.sock_tcp.specs.Begin.{peer_of, before_emit}
use Rattle.sock_tcp.specs.Content.{Sending, asked, offset_of, content}
use Rattle.sock_tcp.specs.Outgoing.{packet_of}
use Rattle.sock_tcp.specs.Queue.{IsLent}
use Rattle.sock_tcp.specs.Rfc.Numbers.{outgoing}
use Rattle.sock_tcp.specs.Sent.{left_by}
use Rattle.sock_tcp.specs.View.{View, moment_of}
use Rattle.sock_tcp.specs.declared.tuple.Tuple.{Tuple}

-- ---- the one call of emit

abbrev pub EmitTcp : Type 0 → Type 0 → Type 0 → Type 1
EmitTcp F C E = Emit F C (IpRepr × TcpRepr) E

abbrev pub packet_in : Sending → IpRepr × Segment
packet_in s = (s.ip, s.segment)

-- The segment with the bytes that the ring lends, and with the timestamp, went out, and the socket is as the answer
-- leaves it.
-- What goes out can be written as a packet and read back
pub record EmitsDue {F C E : Type 0} (g : EmitTcp F C E) (f : F) (facts : Facts) (t : Tuple) (stamp : Option ℕ)
    (v : View) (c : C) (r : Result (Unit {0}) E) (w : View) (c' : C) : Type 0 where
  pub stamped : is_some stamp ≡ v.stamps
  pub bytes : List ℕ
  pub lent : IsLent v.tx_buffer (offset_of v) (asked v t facts) bytes
  pub emits : Emits g packet_of f (option_map packet_in (outgoing v (content v t facts stamp bytes))) c r c'
  pub view : w ≡ left_by (content v t facts stamp bytes) v (moment_of facts) (is_ok r)
  pub fits : ForSome (outgoing v (content v t facts stamp bytes)) (λ s. FitsPacket s.ip s.segment)

-- nothing to emit, or nobody to emit to
pub record IsQuiet {C E : Type 0} (v : View) (c : C) (r : Result (Unit {0}) E) (w : View) (c' : C) : Type 0 where
  pub answer : r ≡ Ok tt
  pub context : c' ≡ c
  pub view : w ≡ v

-- to the peer, if any
abbrev pub EmitsIf : {F C E : Type 0} → EmitTcp F C E → F → Facts → Option ℕ → Option Tuple
    → View → C → Result (Unit {0}) E → View → C → Type 0
EmitsIf g f facts stamp None v c r w c' = IsQuiet v c r w c'
EmitsIf g f facts stamp (Some t) v c r w c' = EmitsDue g f facts t stamp v c r w c'

-- a timestamp that the socket's clock may tell, or none where there is no clock
abbrev pub IsStamp : {G : Type 0} → (G → ℕ → Type 0) → Option G → Option ℕ → Type 0
IsStamp tells clock stamp = MatchOption clock (stamp ≡ None) (λ g. IsSomeAnd stamp (λ n. tells g n))

-- what goes out has a timestamp that the clock tells; how often it is asked is not said
pub record EmitsStamped {F C E G : Type 0} (g : EmitTcp F C E) (f : F) (facts : Facts) (tells : G → ℕ → Type 0)
    (clock : Option G) (t : Tuple) (v : View) (c : C) (r : Result (Unit {0}) E) (w : View) (c' : C) : Type 0 where
  pub stamp : Option ℕ
  pub told : IsStamp tells clock stamp
  pub emits : EmitsDue g f facts t stamp v c r w c'

abbrev pub EmitsTo : {F C E G : Type 0} → EmitTcp F C E → F → Facts → (G → ℕ → Type 0) → Option G → Option Tuple
    → View → C → Result (Unit {0}) E → View → C → Type 0
EmitsTo g f facts tells clock None v c r w c' = IsQuiet v c r w c'
EmitsTo g f facts tells clock (Some t) v c r w c' = EmitsStamped g f facts tells clock t v c r w c'

-- the whole: the beginning, the reasons, and the segment of the state
unfoldable pub Dispatches : {F C E G : Type 0} → EmitTcp F C E → F → Facts → (G → ℕ → Type 0) → Option G
    → View → C → Result (Unit {0}) E → View → C → Type 0
Dispatches g f facts tells clock v c r w c' =
    EmitsTo g f facts tells clock (peer_of (before_emit v facts)) (before_emit v facts).view c r w c'
