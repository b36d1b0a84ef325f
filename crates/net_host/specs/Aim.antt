-- What the limits of a guard are for: no peer keeps a connection whose bytes or FIN it does not acknowledge, and none
-- that acknowledges is cut off.
use Rattle.std.specs.Prelude.{◌≡◌, ◌<◌, ◌≤ℤ◌, ◌<ℤ◌, false, Option, Some, None}
use Rattle.net_base.specs.declared.time.Duration.{Duration}
use Rattle.net_base.specs.declared.time.Instant.{Instant}
use Rattle.control_wire.specs.declared.seq_number.TcpSeqNumber.{TcpSeqNumber}
use Rattle.sock_tcp.specs.Timers.{after}
use Rattle.sock_tcp.specs.View.{View}
use Rattle.sock_tcp.specs.declared.state.State.TheVariants as state
use Rattle.net_host.specs.Guards.{lawful_limit, limit_of, phase_of, with_timeout}
use Rattle.net_host.specs.Remembered.{Remembered as Guard}
use Rattle.net_host.specs.Watching.{Asks, Looks, is_over_for}
use Rattle.net_host.specs.declared.guard.GuardSettings.{GuardSettings}
use Rattle.net_host.specs.declared.guard.Phase.{Phase}
use Rattle.net_host.specs.declared.guard.Phase.TheVariants as phase

-- SND.UNA, while bytes or a FIN wait to be acknowledged
abbrev pub waiting : Phase → Option TcpSeqNumber
waiting (phase.Closing una) = Some una
waiting (phase.Stuck una) = Some una
waiting _ = None

-- A guard that saw SND.UNA here while something waited, at this moment or before, and at each look since, under any
-- settings, whatever segments and calls came between; turns were asked for, too.
pub data Stands (una : TcpSeqNumber) (from : Instant) : Guard → Type 0 where
  Begins : (st : GuardSettings) (now : Instant) (v w : View) (g h : Guard) → waiting (phase_of v) ≡ Some una
      → now.micros ≤ℤ from.micros → Looks st now v g h w → is_over_for st g v now ≡ false → Stands una from h
  Looked : (st : GuardSettings) (now : Instant) (v w : View) (g h : Guard) → Stands una from g
      → waiting (phase_of v) ≡ Some una → Looks st now v g h w → is_over_for st g v now ≡ false → Stands una from h
  Turned : (now : Instant) (g h : Guard) → Stands una from g → Asks now g h → Stands una from h

-- the look at which the limit has passed ends the connection
abbrev pub EndsWhatStands : Type 0
EndsWhatStands =
    (st : GuardSettings) (una : TcpSeqNumber) (from now : Instant) (limit : Duration) (v w : View) (g h : Guard)
    → Stands una from g → waiting (phase_of v) ≡ Some una → limit_of st (phase_of v) ≡ Some limit
    → (after from limit).micros ≤ℤ now.micros → Looks st now v g h w → w.state ≡ state.Closed

-- A guard that saw SND.UNA elsewhere than at its look before, at this moment or later; whatever it saw since, at no
-- earlier moment.
pub data Moved (from : Instant) : Guard → Type 0 where
  Moves : (st : GuardSettings) (now : Instant) (v w : View) (g h : Guard) (una : TcpSeqNumber)
      → waiting (phase_of v) ≡ Some una → (waiting g.phase ≡ Some una → ⊥) → from.micros ≤ℤ now.micros
      → Looks st now v g h w → Moved from h
  Saw : (st : GuardSettings) (now : Instant) (v w : View) (g h : Guard) → Moved from g → from.micros ≤ℤ now.micros
      → Looks st now v g h w → Moved from h
  Asked : (now : Instant) (g h : Guard) → Moved from g → Asks now g h → Moved from h

-- before the limit has passed no look ends the connection: it sets the user timeout alone
abbrev pub SparesWhatMoved : Type 0
SparesWhatMoved =
    (st : GuardSettings) (una : TcpSeqNumber) (from now : Instant) (limit : Duration) (v w : View) (g h : Guard)
    → Moved from g → from.micros ≤ℤ now.micros → waiting (phase_of v) ≡ Some una
    → limit_of st (phase_of v) ≡ Some limit → now.micros <ℤ (after from limit).micros → Looks st now v g h w
    → w ≡ with_timeout (lawful_limit st.timeout) v

-- nor does the look that first sees SND.UNA where it is
abbrev pub SparesWhatMoves : Type 0
SparesWhatMoves =
    (st : GuardSettings) (una : TcpSeqNumber) (now : Instant) (limit : Duration) (v w : View) (g h : Guard)
    → waiting (phase_of v) ≡ Some una → (waiting g.phase ≡ Some una → ⊥) → limit_of st (phase_of v) ≡ Some limit
    → 0 < limit.micros → Looks st now v g h w → w ≡ with_timeout (lawful_limit st.timeout) v
