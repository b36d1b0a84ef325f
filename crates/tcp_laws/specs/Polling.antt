-- What is promised of `poll_at` and of the payload of a dispatch.
use Rattle.std.specs.Prelude.{◌≡◌, ℕ, ◌+◌, ◌≤◌, ◌<◌, ◌^◌, ◌⊎◌, ◌≤ℤ◌, length, Option, Some, None, true, max}
use Rattle.std.specs.Prelude.{false, List}
use Rattle.net_base.specs.Ring.{Ring}
use Rattle.net_base.specs.declared.time.Duration.{Duration}
use Rattle.net_base.specs.declared.time.Instant.{Instant}
use Rattle.sock_core.specs.Facts.{Facts}
use Rattle.sock_core.specs.Received.{receiving}
use Rattle.sock_core.specs.declared.context.PollAt.TheVariants as poll
use Rattle.sock_core.specs.declared.context.PollAt.{PollAt}
use Rattle.sock_tcp.specs.declared.rules.Rules.TheVariants as rules
use Rattle.sock_tcp.specs.Begin.{before_emit, peer_of}
use Rattle.sock_tcp.specs.Content.{Sending, asked, offset_of, content}
use Rattle.sock_tcp.specs.Due.{flight, ack_due, congestion_left}
use Rattle.sock_tcp.specs.Poll.{poll_moment}
use Rattle.sock_tcp.specs.Polls.{IsLater}
use Rattle.sock_tcp.specs.Queue.{IsLent}
use Rattle.sock_tcp.specs.Queue.{queue_of}
use Rattle.sock_tcp.specs.Rfc.UserTimeout.{timeout_of}
use Rattle.sock_tcp.specs.Timers.{after}
use Rattle.sock_tcp.specs.View.{View, fresh, moment_of}
use Rattle.sock_tcp.specs.Work.{has_work}
use Rattle.sock_tcp.specs.declared.emission.Kind.TheVariants as kind
use Rattle.sock_tcp.specs.declared.state.State.TheVariants as state
use Rattle.sock_tcp.specs.declared.state.State.{State}
use Rattle.sock_tcp.specs.declared.timer.Timer.TheVariants as timer
use Rattle.sock_tcp.specs.declared.tuple.Tuple.{Tuple}
use Rattle.tcp_laws.specs.SocketRun.{Counts, Run, starting}

-- ---- `poll_at`

-- where `poll_at` answers a moment after now, or a packet, a dispatch at now has nothing to send
abbrev pub PollHidesNothing : Type 0
PollHidesNothing = (v : View) (f : Facts)
    → IsLater (poll_moment v f) (moment_of f) → peer_of (before_emit v f) ≡ None

-- ---- windows

-- a payload that is no fast retransmission, probe or keep-alive ends at or before SND.UNA plus the peer's window, and
-- is at most the congestion window less what is in flight
abbrev pub PayloadKeepsToWindows : Type 0
PayloadKeepsToWindows = (v : View) (t : Tuple) (f : Facts) (stamp : Option ℕ) (bytes : List ℕ) (s : Sending)
    → IsLent v.tx_buffer (offset_of v) (asked v t f) bytes
    → content v t f stamp bytes ≡ Some s
    → s.kind ≡ kind.Plain
    → v.pending_fast_retransmit ≡ false
    → 0 < length s.segment.payload
    → (flight v + length s.segment.payload ≤ v.remote_win_len) × (length s.segment.payload ≤ congestion_left v)

-- by the RFCs' rules also that of a fast retransmission ends at or before SND.UNA plus the peer's window, or is one
-- byte at SND.UNA (RFC 9293, section 3.8.6)
abbrev pub RetransmissionKeepsToWindow : Type 0
RetransmissionKeepsToWindow = (v : View) (t : Tuple) (f : Facts) (stamp : Option ℕ) (bytes : List ℕ) (s : Sending)
    → v.rules ≡ rules.Rfc
    → IsLent v.tx_buffer (offset_of v) (asked v t f) bytes
    → content v t f stamp bytes ≡ Some s
    → s.kind ≡ kind.Plain
    → 0 < length s.segment.payload
    → offset_of v + length s.segment.payload ≤ max 1 v.remote_win_len

-- ---- any list of calls

-- v is what some list of calls makes of a new socket, over buffers of at most 2^30 bytes
pub record IsReached (v : View) : Type 0 where
  pub rx : Ring ℕ
  pub tx : Ring ℕ
  pub counts : Counts
  pub rx_size : length rx.queue + length rx.spare ≤ 2 ^ 30
  pub tx_size : length tx.queue + length tx.spare ≤ 2 ^ 30
  pub run : Run (fresh (receiving rx) (queue_of tx)) (starting (fresh (receiving rx) (queue_of tx))) v counts

-- ---- asleep with work to do

-- something is in flight, or nothing is and the peer has no window
abbrev pub WaitsForPeer : ℕ → ℕ → Type 0
WaitsForPeer flight window = (0 < flight) ⊎ ((flight ≡ 0) × (window ≡ 0))

-- by state, with what is in flight and the peer's window: in SYN-RECEIVED the SYN counts as sent
abbrev pub SleepsIn : State → ℕ → ℕ → Type 0
SleepsIn state.SynReceived flight window = flight ≡ 1
SleepsIn state.Established flight window = WaitsForPeer flight window
SleepsIn state.CloseWait flight window = WaitsForPeer flight window
SleepsIn state.FinWait1 flight window = WaitsForPeer flight window
SleepsIn state.Closing flight window = WaitsForPeer flight window
SleepsIn state.LastAck flight window = WaitsForPeer flight window
SleepsIn _ flight window = ⊥

-- what holds of a socket that sleeps with work to do
pub record Sleeps (v : View) : Type 0 where
  pub timer : v.timer ≡ timer.Idle None
  pub timeout : v.timeout ≡ None
  pub keep_alive : v.keep_alive ≡ None
  pub no_ack : ack_due v ≡ false
  pub waits : SleepsIn v.state (flight v) v.remote_win_len

-- only so does a socket with work to do wait for a segment
abbrev pub SleepsOnlySo : Type 0
SleepsOnlySo = (v : View) (f : Facts)
    → IsReached v
    → has_work v ≡ true
    → poll_moment v f ≡ poll.Ingress
    → Sleeps v

-- ---- what wakes

-- the poll moment is at this moment at the latest
abbrev pub ComesBy : PollAt → Instant → Type 0
ComesBy poll.Now at = Unit {0}
ComesBy (poll.Time t) at = t.micros ≤ℤ at.micros
ComesBy poll.Ingress at = ⊥

-- with the user timeout d: at once, where no segment came since bytes joined an empty queue, else d after the last one
abbrev pub WakesWithin : Option Instant → Duration → PollAt → Type 0
WakesWithin None d p = p ≡ poll.Now
WakesWithin (Some last) d p = ComesBy p (after last d)

-- any socket that has a peer, and a user timeout which runs
abbrev pub TimeoutWakes : Type 0
TimeoutWakes = (v : View) (t : Tuple) (d : Duration) (f : Facts)
    → v.tuple ≡ Some t
    → timeout_of v ≡ Some d
    → WakesWithin v.remote_last_ts d (poll_moment v f)

-- one that has a peer and a keep-alive interval
abbrev pub KeepAliveWakes : Type 0
KeepAliveWakes = (v : View) (t : Tuple) (d : Duration) (f : Facts)
    → IsReached v
    → v.tuple ≡ Some t
    → v.keep_alive ≡ Some d
    → poll_moment v f ≡ poll.Ingress
    → ⊥

-- ---- without work

-- no byte waits in the transmit queue
abbrev pub NoWorkNoBytes : Type 0
NoWorkNoBytes = (v : View)
    → IsReached v
    → (v.state ≡ state.Closed → ⊥)
    → has_work v ≡ false
    → length v.tx_buffer.bytes ≡ 0
