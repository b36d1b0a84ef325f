-- Losses that are waited for once reordering was seen (RFC 8985, section 6.2).
use Rattle.std.specs.Prelude.{ℕ, pos, ◌≡◌, ◌≤◌, ◌*◌, ◌+ℤ◌, ◌≤ℤ◌, ◌&&◌, Some, true, false}
use Rattle.net_base.specs.declared.time.Instant.{Instant}
use Rattle.control_wire.specs.Segment.{Segment}
use Rattle.sock_core.specs.Estimator.{Estimator, srtt_of}
use Rattle.sock_core.specs.Facts.{Facts}
use Rattle.sock_tcp.specs.Begin.{before_emit, readied, peer_of}
use Rattle.sock_tcp.specs.Due.{data_due}
use Rattle.sock_tcp.specs.Polls.{is_reached, timeout_poll}
use Rattle.sock_tcp.specs.Rfc.UserTimeout.{timeout_of}
use Rattle.sock_tcp.specs.Rfc.Recovery.{before_of, begins, echo_known, is_undone, recovered, reordering_after}
use Rattle.sock_tcp.specs.Rfc.Recovery.{tells_loss, waits_late}
use Rattle.sock_tcp.specs.Rfc.Reordering.{is_late, is_over, may_resend}
use Rattle.sock_tcp.specs.Timers.{is_over as is_past}
use Rattle.sock_tcp.specs.View.{View, moment_of}
use Rattle.sock_tcp.specs.declared.recovery.Before.{Before}
use Rattle.sock_tcp.specs.declared.recovery.Recovery.TheVariants as recovery
use Rattle.sock_tcp.specs.declared.rules.Rules.TheVariants as rules
use Rattle.sock_tcp.specs.declared.timer.Timer.{Timer}
use Rattle.sock_tcp.specs.declared.timer.Timer.TheVariants as timer
use Rattle.sock_tcp.specs.declared.tuple.Tuple.{Tuple}

-- the timer of a retransmission, or a fast one that is due
abbrev pub IsRunning : Timer → Type 0
IsRunning (timer.Retransmit at) = Unit {0}
IsRunning timer.FastRetransmit = Unit {0}
IsRunning t = ⊥

-- and it is over by that moment
abbrev pub IsOverBy : Timer → Instant → Type 0
IsOverBy (timer.Retransmit at) t = at.micros ≤ℤ t.micros
IsOverBy timer.FastRetransmit t = Unit {0}
IsOverBy _ t = ⊥

-- so many quarters of a round trip from now
abbrev pub quarters_from : Instant → ℕ → Estimator → Instant
quarters_from now n e = record { micros = now.micros +ℤ pos (n * (srtt_of e.smoothed * 250)) }

-- The segment s came to v, and w is what it left so far. Where it tells of a loss while no recovery goes on, a fast
-- retransmission is due at once, or the timer is over after as many quarters of a round trip as reordering was seen
abbrev pub NoLossIsForgotten : Type 0
NoLossIsForgotten =
    (v w : View) (s : Segment) (now : Instant)
    → IsRunning (echo_known (before_of v s) w now).timer
    → may_resend w ≡ true
    → is_over (before_of v s).recovery ≡ true
    → tells_loss (before_of v s) (echo_known (before_of v s) w now) ≡ true
    → IsOverBy (recovered (before_of v s) w now).timer
    (quarters_from now (recovered (before_of v s) w now).reordering (echo_known (before_of v s) w now).rtte)

-- the timer of a socket that waits for a loss is over; the user timeout is not
pub record IsLateOver (v : View) (t : Tuple) (f : Facts) : Type 0 where
  pub peer : v.tuple ≡ Some t
  pub address : f.has_address t.local.addr ≡ true
  pub alive : is_reached (timeout_poll (timeout_of v) (readied v (moment_of f)).remote_last_ts) (moment_of f) ≡ false
  pub at : Instant
  pub timer : v.timer ≡ timer.Retransmit at
  pub over : is_past at (moment_of f) ≡ true
  pub rfc : v.rules ≡ rules.Rfc
  pub waits : is_late v ≡ true

-- the dispatch comes to its emit as a fast recovery, of which nothing went out yet, with what is marked due
pub record BeginsRecovery (v : View) (t : Tuple) (f : Facts) : Type 0 where
  pub peer : peer_of (before_emit v f) ≡ Some t
  pub due : data_due (before_emit v f).view t f ≡ true
  pub marked : (before_emit v f).view.pending_fast_retransmit ≡ true
  pub una : (before_emit v f).view.local_seq_no ≡ v.local_seq_no
  pub nxt : (before_emit v f).view.remote_last_seq ≡ v.remote_last_seq
  pub recovery :
      (before_emit v f).view.recovery
      ≡ recovery.Fast v.remote_last_seq v.local_seq_no v.remote_last_seq false false false

-- the hole goes out then
abbrev pub LateHoleGoesOut : Type 0
LateHoleGoesOut = (v : View) (t : Tuple) (f : Facts) → IsLateOver v t f → BeginsRecovery v t f

-- where no reordering was seen, nothing is waited for
pub record IsAsBefore (b : Before) (w : View) : Type 0 where
  pub begins : begins b w ≡ (may_resend w && (tells_loss b w && is_over b.recovery))
  pub waits : waits_late b w ≡ false

abbrev pub NothingSeenNothingWaits : Type 0
NothingSeenNothingWaits = (b : Before) (w : View) → w.reordering ≡ 0 → is_undone b w ≡ false → IsAsBefore b w

abbrev pub NothingSeenNothingIsLate : Type 0
NothingSeenNothingIsLate = (v : View) → v.reordering ≡ 0 → is_late v ≡ false

-- at most a round trip is waited for
abbrev pub WaitsForARoundTripAtMost : Type 0
WaitsForARoundTripAtMost = (b : Before) (w : View) → w.reordering ≤ 4 → reordering_after b w ≤ 4
