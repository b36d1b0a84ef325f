-- By the RFCs' rules what is told of a loss lets the hole go out next (RFC 5681, section 3.2; RFC 6675, 4 and 5).
use Rattle.std.specs.Prelude.{ℕ, ◌≡◌, ◌<◌, ◌*◌, ◌^◌, ◌⊎◌, length, Some, Bool, true, false}
use Rattle.ip_wire.specs.declared.repr.IpRepr.{IpRepr}
use Rattle.net_base.specs.declared.time.Instant.{Instant}
use Rattle.control_wire.specs.Segment.{Segment, segment_len}
use Rattle.control_wire.specs.declared.seq_number.TcpSeqNumber.{TcpSeqNumber}
use Rattle.sock_core.specs.Facts.{Facts, IsLawful}
use Rattle.sock_tcp.specs.Begin.{before_emit, peer_of, readied}
use Rattle.sock_tcp.specs.Content.{Sending, carries_data, hole_of}
use Rattle.sock_tcp.specs.Due.{data_due}
use Rattle.sock_tcp.specs.Polls.{is_reached, timeout_poll}
use Rattle.sock_tcp.specs.Process.{processed}
use Rattle.sock_tcp.specs.Rfc.Pipe.{told_before}
use Rattle.sock_tcp.specs.Rfc.Recovery.{is_fast, is_telling, sacked_after, tells_loss}
use Rattle.sock_tcp.specs.Rfc.Reordering.{is_over, may_resend}
use Rattle.sock_tcp.specs.Rfc.Scoreboard.{hole_number}
use Rattle.sock_tcp.specs.Rfc.UserTimeout.{timeout_of}
use Rattle.sock_tcp.specs.Rfc.Windows.{windowed}
use Rattle.sock_tcp.specs.View.{View, moment_of}
use Rattle.sock_tcp.specs.declared.recovery.Before.{Before}
use Rattle.sock_tcp.specs.declared.rules.Rules.TheVariants as rules
use Rattle.sock_tcp.specs.declared.timer.Timer.TheVariants as timer
use Rattle.sock_tcp.specs.declared.tuple.Tuple.{Tuple}
use Rattle.tcp_laws.specs.Late.{IsOverBy, quarters_from}
use Rattle.tcp_laws.specs.Polling.{IsReached}
use Rattle.tcp_laws.specs.Repeating.{Emitted}
use Rattle.tcp_laws.specs.SocketRun.{IsNumbered}
use Rattle.tcp_laws.specs.Waking.{IsThirdDuplicate, TellsWindow}

-- ---- what is told

-- w is what the segment s makes of v. No recovery goes on, and no fast retransmission is due yet; where the peer tells
-- by SACK, the segment tells something new; and bytes wait to be acknowledged
pub record MayTellLoss (v : View) (s : Segment) (w : View) : Type 0 where
  pub rfc : v.rules ≡ rules.Rfc
  pub calm : is_over v.recovery ≡ true
  pub not_due : is_fast v.timer ≡ false
  pub counts : (w.remote_has_sack ≡ false) ⊎ (is_telling v s ≡ true)
  pub bytes : may_resend w ≡ true

-- a third duplicate in turn makes a fast retransmission due: at once, or after as many quarters of a round trip as
-- reordering was seen
abbrev pub ThirdDuplicateResends : Type 0
ThirdDuplicateResends = (v : View) (now : Instant) (word : ℕ) (ip : IpRepr) (s : Segment) (ack : TcpSeqNumber)
    → IsReached v
    → IsNumbered s
    → TellsWindow v now s
    → IsThirdDuplicate v s ack
    → MayTellLoss v (windowed v.rules v s) (processed v now word ip s).view
    → IsOverBy (processed v now word ip s).view.timer
    (quarters_from now (processed v now word ip s).view.reordering (processed v now word ip s).view.rtte)

-- a segment that acknowledges nothing and tells something new, where more than two segments are told behind a hole at
-- SND.UNA, tells of a loss (RFC 6675, section 4), as `NoLossIsForgotten` asks
abbrev pub BlocksTellLoss : Type 0
BlocksTellLoss = (b : Before) (w : View)
    → b.telling ≡ true
    → w.local_seq_no ≡ b.una
    → 2 * w.remote_mss < told_before (sacked_after b w) (2 ^ 32)
    → tells_loss b w ≡ true

-- ---- what goes out

-- a fast retransmission is due, of a socket with a peer and its address, whose user timeout is not over
pub record IsResendDue (v : View) (t : Tuple) (f : Facts) : Type 0 where
  pub peer : v.tuple ≡ Some t
  pub address : f.has_address t.local.addr ≡ true
  pub alive : is_reached (timeout_poll (timeout_of v) (readied v (moment_of f)).remote_last_ts) (moment_of f) ≡ false
  pub timer : v.timer ≡ timer.FastRetransmit
  pub bytes : may_resend v ≡ true

-- the dispatch comes to its emit with the same hole, marked and due
pub record BeginsResending (v : View) (t : Tuple) (f : Facts) : Type 0 where
  pub peer : peer_of (before_emit v f) ≡ Some t
  pub due : data_due (before_emit v f).view t f ≡ true
  pub marked : (before_emit v f).view.pending_fast_retransmit ≡ true
  pub una : (before_emit v f).view.local_seq_no ≡ v.local_seq_no
  pub hole : hole_of (before_emit v f).view ≡ hole_of v

abbrev pub DueResendBegins : Type 0
DueResendBegins = (v : View) (t : Tuple) (f : Facts) → IsResendDue v t f → BeginsResending v t f

-- what is marked goes out with its number: that of the hole, or SND.UNA where none is told; and it takes numbers
pub record IsHoleOut (u : View) (out : Segment) : Type 0 where
  pub number : out.seq_number ≡ hole_number (hole_of u) (length u.tx_buffer.bytes) u.local_seq_no
  pub some : 0 < segment_len out

abbrev pub MarkedHoleGoesOut : Type 0
MarkedHoleGoesOut = (v u w : View) (f : Facts) (out : Sending)
    → IsReached v
    → IsLawful f
    → (h : Emitted f v u out w)
    → carries_data u.state ≡ true
    → u.pending_fast_retransmit ≡ true
    → data_due u h.peer f ≡ true
    → IsHoleOut u out.segment
