-- When a dispatch sends bytes or a FIN.
use Rattle.std.specs.Prelude.{◌≡◌, ◌<◌, Some, true, false}
use Rattle.net_base.specs.declared.time.Instant.{Instant}
use Rattle.control_wire.specs.Segment.{segment_len}
use Rattle.sock_core.specs.Facts.{Facts, IsLawful}
use Rattle.sock_tcp.specs.Begin.{before_emit, readied, peer_of}
use Rattle.sock_tcp.specs.Content.{Sending}
use Rattle.sock_tcp.specs.Due.{data_due}
use Rattle.sock_tcp.specs.Polls.{is_reached, timeout_poll}
use Rattle.sock_tcp.specs.Rfc.UserTimeout.{timeout_of}
use Rattle.sock_tcp.specs.Rfc.TailLoss.{probes_tail}
use Rattle.sock_tcp.specs.Timers.{is_over}
use Rattle.sock_tcp.specs.View.{View, moment_of}
use Rattle.sock_tcp.specs.declared.state.State.TheVariants as state
use Rattle.sock_tcp.specs.declared.timer.Timer.TheVariants as timer
use Rattle.sock_tcp.specs.declared.tuple.Tuple.{Tuple}
use Rattle.tcp_laws.specs.Polling.{IsReached}
use Rattle.tcp_laws.specs.Repeating.{Emitted}
use Rattle.tcp_laws.specs.Waking.{HasToSend}

-- where data is due just before the emit, what goes out takes a sequence number
abbrev pub DueDataGoesOut : Type 0
DueDataGoesOut = (v u w : View) (f : Facts) (out : Sending)
    → IsReached v
    → IsLawful f
    → (h : Emitted f v u out w)
    → (u.state ≡ state.Closed → ⊥)
    → data_due u h.peer f ≡ true
    → 0 < segment_len out.segment

-- the retransmission timer of a socket with a peer is over, and its address is there; the user timeout is not over, and
-- by the RFCs' rules no tail-loss probe goes out first
pub record IsRetransmissionOver (v : View) (t : Tuple) (f : Facts) : Type 0 where
  pub peer : v.tuple ≡ Some t
  pub address : f.has_address t.local.addr ≡ true
  pub alive : is_reached (timeout_poll (timeout_of v) (readied v (moment_of f)).remote_last_ts) (moment_of f) ≡ false
  pub at : Instant
  pub timer : v.timer ≡ timer.Retransmit at
  pub over : is_over at (moment_of f) ≡ true
  pub no_probe : probes_tail v (moment_of f) ≡ false

-- the dispatch comes to its emit as u, with data due from SND.UNA on
pub record BeginsAgain (v : View) (t : Tuple) (f : Facts) : Type 0 where
  pub peer : peer_of (before_emit v f) ≡ Some t
  pub due : data_due (before_emit v f).view t f ≡ true
  pub una : (before_emit v f).view.local_seq_no ≡ v.local_seq_no
  pub nxt : (before_emit v f).view.remote_last_seq ≡ v.local_seq_no

-- with a window, and bytes or a FIN that wait, a dispatch sends again from SND.UNA on
abbrev pub RetransmissionBegins : Type 0
RetransmissionBegins = (v : View) (t : Tuple) (f : Facts)
    → IsReached v
    → IsRetransmissionOver v t f
    → 0 < v.remote_win_len
    → HasToSend v
    → BeginsAgain v t f
