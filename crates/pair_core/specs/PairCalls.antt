-- What opening, sending and receiving do to one side.
use Rattle.std.specs.Prelude.{ℕ, ◌≡◌, ◌+◌, ◌++◌, List, length, min, take, Option, Some, None, Bool, true, false}
use Rattle.std.specs.Prelude.{if◌then◌else◌, nat_lt}
use Rattle.ip_wire.specs.declared.endpoint.IpEndpoint.{IpEndpoint}
use Rattle.sock_core.specs.Received.{first_piece}
use Rattle.sock_tcp.specs.Opening.{listened, connected}
use Rattle.sock_tcp.specs.Closing.{closed, aborted}
use Rattle.sock_tcp.specs.Queue.{free_piece}
use Rattle.sock_tcp.specs.Queues.{may_send, may_recv, fitting, queued, readable, read_off, recv_refusal}
use Rattle.sock_tcp.specs.declared.error.SendError.TheVariants as send_error
use Rattle.pair_core.specs.declared.host.Call.{Call}
use Rattle.pair_core.specs.declared.host.Call.TheVariants as call
use Rattle.pair_core.specs.declared.host.Opening.{Opening}
use Rattle.pair_core.specs.declared.host.Opening.TheVariants as opening
use Rattle.pair_core.specs.declared.moment.Moment.{Moment}
use Rattle.pair_core.specs.declared.outcome.Outcome.{Outcome}
use Rattle.pair_core.specs.declared.outcome.Outcome.TheVariants as outcome
use Rattle.pair_core.specs.declared.setting.Setting.{Setting}
use Rattle.pair_core.specs.PairViews.{HostView}
use Rattle.pair_core.specs.Settings.{set_in}

-- ---- opening: each side once

abbrev pub listening : {G : Type 0} → HostView G → HostView G
listening h =
    record h {
      control_block = listened h.control_block (record { addr = Some h.endpoint.addr; port = h.endpoint.port });
      opening = opening.Listener;
    }

abbrev pub connecting : {G : Type 0} → HostView G → Moment → IpEndpoint → HostView G
connecting h m remote =
    record h {
      control_block = connected h.control_block (record { local = h.endpoint; remote = remote }) m.word;
      opening = opening.Connector;
    }

-- h opens as k, or was opened before
abbrev pub OpensAs : {G : Type 0} → Opening → HostView G → HostView G → Outcome → HostView G → Type 0
OpensAs opening.Unopened h k o new = (o ≡ outcome.Opened) × (new ≡ k)
OpensAs opening.Listener h k o new = (o ≡ outcome.AlreadyOpened) × (new ≡ h)
OpensAs opening.Connector h k o new = (o ≡ outcome.AlreadyOpened) × (new ≡ h)

-- ---- sending, up to the limit

-- the first n of the bytes join the transmit queue
abbrev pub sending : {G : Type 0} → HostView G → ℕ → List ℕ → HostView G
sending h n bs = record h { control_block = queued h.control_block n bs; accepted = h.accepted ++ take n bs }

-- `send_slice`: as many as fit
abbrev pub TakesSlice : {G : Type 0} → List ℕ → HostView G → Outcome → HostView G → Type 0
TakesSlice bs h o new = (o ≡ outcome.Accepted (fitting h.control_block (length bs)))
    × (new ≡ sending h (fitting h.control_block (length bs)) bs)

-- how many bytes a `send` of n takes, which lets at most `size` of them join the queue: those that fit the free places
-- that stand in one piece
abbrev pub piece_taken : {G : Type 0} → ℕ → ℕ → HostView G → ℕ
piece_taken size n h = min size (min n (free_piece h.control_block.tx_buffer))

-- `send`: as many of the bytes as the places hold that the ring lends are written there, and the smaller of their count
-- and `size` is accepted
abbrev pub TakesPiece : {G : Type 0} → ℕ → List ℕ → HostView G → Outcome → HostView G → Type 0
TakesPiece size bs h o new = (o ≡ outcome.Accepted (piece_taken size (length bs) h))
    × (new ≡ sending h (piece_taken size (length bs) h) bs)

-- by `send_slice`, or by `send` with this size
abbrev pub TakesBytes : {G : Type 0} → Option ℕ → List ℕ → HostView G → Outcome → HostView G → Type 0
TakesBytes None bs h o new = TakesSlice bs h o new
TakesBytes (Some size) bs h o new = TakesPiece size bs h o new

abbrev pub SendsIf : {G : Type 0} → Bool → Option ℕ → List ℕ → HostView G → Outcome → HostView G → Type 0
SendsIf true size bs h o new = TakesBytes size bs h o new
SendsIf false size bs h o new = (o ≡ outcome.SendRefused send_error.InvalidState) × (new ≡ h)

-- the limit is tested before the socket is asked
abbrev pub is_over : Option ℕ → ℕ → Bool
is_over None n = false
is_over (Some limit) n = nat_lt limit n

abbrev pub SendsUnder : {G : Type 0} → Bool → Option ℕ → List ℕ → HostView G → Outcome → HostView G → Type 0
SendsUnder true size bs h o new = (o ≡ outcome.StreamLimit) × (new ≡ h)
SendsUnder false size bs h o new = SendsIf (may_send h.control_block.state) size bs h o new

abbrev pub Sends : {G : Type 0} → Option ℕ → Option ℕ → List ℕ → HostView G → Outcome → HostView G → Type 0
Sends limit size bs h o new = SendsUnder (is_over limit (length h.accepted + length bs)) size bs h o new

-- ---- receiving

-- the first n bytes of the receive queue are handed out
abbrev pub receiving : {G : Type 0} → HostView G → ℕ → HostView G
receiving h n =
    record h {
      control_block = read_off h.control_block n;
      handed_out = h.handed_out ++ take n h.control_block.rx_buffer.bytes;
    }

abbrev pub IsRead : Outcome → List ℕ → Type 0
IsRead (outcome.Read v) bs = v.items ≡ bs
IsRead _ bs = ⊥

pub record HandsOut {G : Type 0} (n : ℕ) (h : HostView G) (o : Outcome) (new : HostView G) : Type 0 where
  pub answer : IsRead o (take n h.control_block.rx_buffer.bytes)
  pub host : new ≡ receiving h n

-- `recv`: of the queue as far as it stands in one piece, at most `size` bytes are handed out
abbrev pub HandsOutPiece : {G : Type 0} → ℕ → HostView G → Outcome → HostView G → Type 0
HandsOutPiece size h o new = HandsOut (min size (first_piece h.control_block.rx_buffer)) h o new

-- by `recv`, or by `recv_slice`, at most so many
abbrev pub HandsOutBytes : {G : Type 0} → Bool → ℕ → HostView G → Outcome → HostView G → Type 0
HandsOutBytes true size h o new = HandsOutPiece size h o new
HandsOutBytes false size h o new = HandsOut (readable h.control_block size) h o new

abbrev pub ReceivesIf : {G : Type 0} → Bool → Bool → ℕ → HostView G → Outcome → HostView G → Type 0
ReceivesIf true piece size h o new = HandsOutBytes piece size h o new
ReceivesIf false piece size h o new = (o ≡ outcome.RecvRefused (recv_refusal h.control_block)) × (new ≡ h)

abbrev pub Receives : {G : Type 0} → Bool → ℕ → HostView G → Outcome → HostView G → Type 0
Receives piece size h o new = ReceivesIf (may_recv h.control_block) piece size h o new

-- ---- closing

-- the side's stream ends where bytes could be sent, in ESTABLISHED and CLOSE-WAIT
abbrev pub closing : {G : Type 0} → HostView G → HostView G
closing h =
    record h {
      control_block = closed h.control_block;
      closed = if may_send h.control_block.state then true else h.closed;
    }

abbrev pub Closes : {G : Type 0} → HostView G → Outcome → HostView G → Type 0
Closes h o new = (o ≡ outcome.Done) × (new ≡ closing h)

abbrev pub aborting : {G : Type 0} → HostView G → HostView G
aborting h = record h { control_block = aborted h.control_block }

abbrev pub Aborts : {G : Type 0} → HostView G → Outcome → HostView G → Type 0
Aborts h o new = (o ≡ outcome.Done) × (new ≡ aborting h)

-- ---- settings

abbrev pub setting : {G : Type 0} → HostView G → Setting → HostView G
setting h s = record h { control_block = set_in s h.control_block }

abbrev pub Sets : {G : Type 0} → Setting → HostView G → Outcome → HostView G → Type 0
Sets s h o new = (o ≡ outcome.Done) × (new ≡ setting h s)

-- ---- the calls that take nothing, or a setting

abbrev pub Calls : {G : Type 0} → Call → HostView G → Outcome → HostView G → Type 0
Calls call.Listen h o new = OpensAs h.opening h (listening h) o new
Calls call.Close h o new = Closes h o new
Calls call.Abort h o new = Aborts h o new
Calls (call.Set s) h o new = Sets s h o new
