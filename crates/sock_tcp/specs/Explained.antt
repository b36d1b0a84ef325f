-- What `process` does with a segment, by the row that it falls into.
use Rattle.std.specs.Prelude.{ℕ, List, length, ◌≡◌, ◌==◌, Bool, true, false}
use Rattle.ip_wire.specs.declared.repr.IpRepr.{IpRepr}
use Rattle.net_base.specs.declared.time.Instant.{Instant}
use Rattle.control_wire.specs.Segment.{Segment}
use Rattle.sock_tcp.specs.Advance.{dropped, fallen_back}
use Rattle.sock_tcp.specs.Explain.{row_of}
use Rattle.sock_tcp.specs.Process.{Outcome, bytes_taken, challenged, closed_then, outside, processed, rst_sent, stopped}
use Rattle.sock_tcp.specs.Process.{told_then}
use Rattle.sock_tcp.specs.Rfc.Recovery.{recovered_by}
use Rattle.sock_tcp.specs.Rfc.Windows.{windowed}
use Rattle.sock_tcp.specs.View.{View}
use Rattle.sock_tcp.specs.declared.explain.Row.{Row}
use Rattle.sock_tcp.specs.declared.explain.Row.TheVariants as row
use Rattle.sock_tcp.specs.declared.state.State.{State}
use Rattle.sock_tcp.specs.declared.state.State.TheVariants as state

-- ---- kinds of rows

abbrev pub is_dropped : Row → Bool
is_dropped row.NoSyn = true
is_dropped row.ResetUnacceptable = true
is_dropped row.ResetInTimeWait = true
is_dropped row.ResetOutside = true
is_dropped row.NoAck = true
is_dropped row.OldAck = true
is_dropped _ = false

abbrev pub is_challenged : Row → Bool
is_challenged row.AckUnsent = true
is_challenged row.ResetChallenged = true
is_challenged row.SynChallenged = true
is_challenged row.OldTimestamp = true
is_challenged _ = false

abbrev pub is_outside : Row → Bool
is_outside row.OldDuplicate = true
is_outside row.BeyondWindow = true
is_outside _ = false

-- ---- the laws; what the socket's rules do behind the tables, nothing by smoltcp's, stands around what these do

abbrev pub behind : View → Instant → Segment → Outcome → Outcome
behind v now s o =
    told_then v.rules v (windowed v.rules v s)
    (closed_then v.rules (recovered_by v.rules v now (windowed v.rules v s) o))

-- nothing changes, and nothing is answered
abbrev pub DroppedChangeNothing : Type 0
DroppedChangeNothing = (v : View) (now : Instant) (word : ℕ) (ip : IpRepr) (s : Segment)
    → is_dropped (row_of v now s) ≡ true
    → processed v now word ip s ≡ stopped v

-- an RST, and nothing else
abbrev pub UnacceptableAreReset : Type 0
UnacceptableAreReset = (v : View) (now : Instant) (word : ℕ) (ip : IpRepr) (s : Segment)
    → row_of v now s ≡ row.AckUnacceptable
    → processed v now word ip s ≡ rst_sent v (windowed v.rules v s)

-- a challenge ACK, and nothing else
abbrev pub ChallengedAreChallenged : Type 0
ChallengedAreChallenged = (v : View) (now : Instant) (word : ℕ) (ip : IpRepr) (s : Segment)
    → is_challenged (row_of v now s) ≡ true
    → processed v now word ip s ≡ challenged v now (windowed v.rules v s)

-- the answer to what lies outside of the window, and nothing else
abbrev pub OutsideAreAnswered : Type 0
OutsideAreAnswered = (v : View) (now : Instant) (word : ℕ) (ip : IpRepr) (s : Segment)
    → is_outside (row_of v now s) ≡ true
    → processed v now word ip s ≡ behind v now s (outside v now (windowed v.rules v s))

-- u is v, but for the number that the next answer repeats
abbrev pub ButNumber : View → View → Type 0
ButNumber v u = u ≡ record v { local_rx_last_seq = u.local_rx_last_seq }

-- an RST in SYN-RECEIVED makes a listener listen again; elsewhere the socket is CLOSED
abbrev pub reset_from : State → View → View
reset_from state.SynReceived u = fallen_back u
reset_from _ u = dropped u

pub record IsReset (v : View) (now : Instant) (s : Segment) (o : Outcome) : Type 0 where
  pub view : View
  pub number : ButNumber v view
  pub outcome : o ≡ behind v now s (stopped (reset_from v.state view))

pub record IsIgnored (v : View) (now : Instant) (s : Segment) (o : Outcome) : Type 0 where
  pub view : View
  pub number : ButNumber v view
  pub outcome : o ≡ behind v now s (stopped view)

-- the connection ends, and nothing is answered
abbrev pub ResetsEnd : Type 0
ResetsEnd = (v : View) (now : Instant) (word : ℕ) (ip : IpRepr) (s : Segment)
    → row_of v now s ≡ row.Reset
    → IsReset v now s (processed v now word ip s)

-- no more than its number is kept, and nothing is answered
abbrev pub IgnoredTellNothing : Type 0
IgnoredTellNothing = (v : View) (now : Instant) (word : ℕ) (ip : IpRepr) (s : Segment)
    → row_of v now s ≡ row.Ignored
    → IsIgnored v now s (processed v now word ip s)

pub record IsOfNothingNew (v : View) (now : Instant) (s : Segment) (o : Outcome) : Type 0 where
  pub view : View
  pub number : ButNumber v view
  pub outcome : o ≡ behind v now s (challenged view now (windowed v.rules v s))

-- no more than its number is kept, and a challenge ACK answers it
abbrev pub NothingNewIsChallenged : Type 0
NothingNewIsChallenged = (v : View) (now : Instant) (word : ℕ) (ip : IpRepr) (s : Segment)
    → row_of v now s ≡ row.NothingNew
    → IsOfNothingNew v now s (processed v now word ip s)

-- its bytes, at least one, come to the receive buffer as it was before: at RCV.NXT, or not
pub record IsTaken (first : Bool) (v : View) (now : Instant) (s : Segment) (o : Outcome) : Type 0 where
  pub view : View
  pub buffer : view.rx_buffer ≡ v.rx_buffer
  pub offset : ℕ
  pub at : (offset == 0) ≡ first
  pub bytes : List ℕ
  pub some : (length bytes == 0) ≡ false
  pub outcome : o ≡ behind v now s (bytes_taken view now offset bytes (windowed v.rules v s))

abbrev pub InOrderAreTaken : Type 0
InOrderAreTaken = (v : View) (now : Instant) (word : ℕ) (ip : IpRepr) (s : Segment)
    → row_of v now s ≡ row.InOrder
    → IsTaken true v now s (processed v now word ip s)

abbrev pub BehindGapAreTaken : Type 0
BehindGapAreTaken = (v : View) (now : Instant) (word : ℕ) (ip : IpRepr) (s : Segment)
    → row_of v now s ≡ row.BehindGap
    → IsTaken false v now s (processed v now word ip s)

-- what is for the socket is in another row than `NotAccepted`
abbrev pub NoRowIsNotAccepted : Type 0
NoRowIsNotAccepted = (v : View) (now : Instant) (ip : IpRepr) (s : Segment)
    → row_of v now s ≡ row.NotAccepted
    → ⊥
