-- How late a wake-up may come: over any list of calls whose clock does not go back.
use Rattle.std.specs.Prelude.{ℕ, ◌≡◌, ◌+◌, ◌≤◌, ◌^◌, ◌≤ℤ◌, pos, length, Option, Some, None}
use Rattle.std.specs.Option.{ForSome}
use Rattle.net_base.specs.Ring.{Ring}
use Rattle.net_base.specs.declared.time.Duration.{Duration}
use Rattle.net_base.specs.declared.time.Instant.{Instant}
use Rattle.sock_core.specs.Facts.{Facts}
use Rattle.sock_core.specs.Received.{receiving}
use Rattle.sock_core.specs.declared.context.PollAt.TheVariants as poll
use Rattle.sock_tcp.specs.Due.{held_poll}
use Rattle.sock_tcp.specs.Poll.{poll_moment}
use Rattle.sock_tcp.specs.Polls.{timer_poll}
use Rattle.sock_tcp.specs.Queue.{queue_of}
use Rattle.sock_tcp.specs.Timers.{after}
use Rattle.sock_tcp.specs.View.{View, fresh, moment_of}
use Rattle.sock_tcp.specs.declared.tuple.Tuple.{Tuple}
use Rattle.tcp_laws.specs.Polling.{ComesBy}
use Rattle.tcp_laws.specs.SocketRun.{Counts, Sets, Step, starting}
use Rattle.tcp_laws.specs.SocketRun.{Process, Dispatch, Set, SetPathMtu, SetKeepAlive, SetAckDelay}

-- ---- a list of calls with its clock

-- the moment that a call tells
abbrev pub moment_in : {v w : View} {k j : Counts} → Step v k w j → Option Instant
moment_in (Process r now word ip s small numbered short bare view counts) = Some now
moment_in (Dispatch f out sends counts) = Some (moment_of f)
moment_in (SetPathMtu now mtu view counts) = Some now
moment_in _ = None

-- the interval of keep-alives, or the delay of acknowledgements, that a call sets
abbrev pub interval_set : {v w : View} → Sets v w → Option Duration
interval_set (SetKeepAlive x view) = x
interval_set (SetAckDelay x view) = x
interval_set _ = None

abbrev pub interval_in : {v w : View} {k j : Counts} → Step v k w j → Option Duration
interval_in (Set x counts) = interval_set x
interval_in _ = None

-- the clock did not go back
abbrev pub IsNext : Option Instant → Instant → Type 0
IsNext told last = ForSome told (λ now. last.micros ≤ℤ now.micros)

-- the latest moment told
abbrev pub latest : Option Instant → Instant → Instant
latest None last = last
latest (Some now) last = now

abbrev pub IsAtMost : Option Duration → Duration → Type 0
IsAtMost d most = ForSome d (λ t. t.micros ≤ most.micros)

-- any list of calls, with the latest moment told before and after it; no interval that was set is longer than most
pub data TimedRun (most : Duration) : View → Counts → Instant → View → Counts → Instant → Type 0 where
  NoCall : (v : View) (k : Counts) (last : Instant) → TimedRun most v k last v k last
  OneMore : (v u w : View) (k i j : Counts) (last end : Instant) (s : Step v k u i)
      → IsNext (moment_in s) last
      → IsAtMost (interval_in s) most
      → TimedRun most u i (latest (moment_in s) last) w j end
      → TimedRun most v k last w j end

-- v is what some such list makes of a new socket, over buffers of at most 2^30 bytes, where the clock begins at 0 or
-- later, and last is the latest moment told. Most is a minute or more
pub record IsReachedBy (v : View) (last : Instant) (most : Duration) : Type 0 where
  pub rx : Ring ℕ
  pub tx : Ring ℕ
  pub counts : Counts
  pub first : Instant
  pub rx_size : length rx.queue + length rx.spare ≤ 2 ^ 30
  pub tx_size : length tx.queue + length tx.spare ≤ 2 ^ 30
  pub from_zero : pos 0 ≤ℤ first.micros
  pub minute : 60000000 ≤ most.micros
  pub run : TimedRun most (fresh (receiving rx) (queue_of tx)) (starting (fresh (receiving rx) (queue_of tx))) first v
      counts last

-- ---- the law

-- where its timer has no moment, something that is held back has one: an acknowledgement, or by the RFCs' rules bytes
abbrev pub IsAwake : View → Type 0
IsAwake v = timer_poll v.timer ≡ poll.Ingress → held_poll v ≡ poll.Ingress → ⊥

-- a socket with a peer that is awake is to be called at the latest so long after the latest moment told
abbrev pub WakeUpIsBounded : Type 0
WakeUpIsBounded = (v : View) (last : Instant) (most : Duration) (t : Tuple) (f : Facts)
    → IsReachedBy v last most
    → v.tuple ≡ Some t
    → IsAwake v
    → ComesBy (poll_moment v f) (after last most)

-- and one with a keep-alive interval always is
abbrev pub KeepAliveIsBounded : Type 0
KeepAliveIsBounded = (v : View) (last : Instant) (most d : Duration) (t : Tuple) (f : Facts)
    → IsReachedBy v last most
    → v.tuple ≡ Some t
    → v.keep_alive ≡ Some d
    → ComesBy (poll_moment v f) (after last most)
