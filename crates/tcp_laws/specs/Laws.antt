-- What is promised of one socket beyond its case tables.
use Rattle.std.specs.Prelude.{◌≡◌, ◌⊎◌, length, Option, Some, None, true}
use Rattle.control_wire.specs.Segment.{Segment}
use Rattle.sock_core.specs.Received.{TakesIn}
use Rattle.sock_tcp.specs.View.{View}
use Rattle.sock_tcp.specs.Window.{accepted_window, is_inside, cut_of, cut_bytes}
use Rattle.sock_tcp.specs.declared.rules.Rules.{Rules}
use Rattle.sock_tcp.specs.declared.state.State.{State}
use Rattle.sock_tcp.specs.declared.state.State.TheVariants as state
use Rattle.sock_tcp.specs.declared.tuple.Tuple.{Tuple}

-- The segment lies inside the window in which these rules take it, and the bytes of it that lie there come at their
-- offset from RCV.NXT: the receive queue is appended to, and no byte of it changes; what was held stays so until it
-- joins or is replaced
pub record TakesSegment (r : Rules) (v : View) (s : Segment) (w : View) : Type 0 where
  pub inside : is_inside (accepted_window r v) s.seq_number (length s.payload) ≡ true
  pub takes : TakesIn v.rx_buffer w.rx_buffer (cut_of (accepted_window r v) s.seq_number (length s.payload)).offset
      (cut_bytes (cut_of (accepted_window r v) s.seq_number (length s.payload)) s.payload)

-- what a segment may do to the receive buffer: nothing, or it is taken
abbrev pub MayTake : Rules → View → Segment → View → Type 0
MayTake r v s w = (w.rx_buffer ≡ v.rx_buffer) ⊎ TakesSegment r v s w

-- every state but CLOSED and LISTEN has the peer t, and CLOSED may have it still
abbrev pub IsPeered : State → Option Tuple → Tuple → Type 0
IsPeered state.Closed o t = (o ≡ None) ⊎ (o ≡ Some t)
IsPeered state.Listen o t = o ≡ None
IsPeered _ o t = o ≡ Some t
