-- What undoes a recovery that was for nothing, and what decides that it was not.
use Rattle.std.specs.Prelude.{ℕ, ◌≡◌, ◌≤◌, true, false}
use Rattle.net_base.specs.declared.time.Instant.{Instant}
use Rattle.control_wire.specs.Segment.{Segment}
use Rattle.sock_core.specs.declared.congestion.AnyController.{AnyController}
use Rattle.sock_core.specs.declared.congestion.AnyController.TheVariants as controller
use Rattle.sock_tcp.specs.Rfc.Recovery.{before_of, is_decided, is_undone, recovered}
use Rattle.sock_tcp.specs.Rfc.Undo.{nothing_to_undo}
use Rattle.sock_tcp.specs.View.{View}
use Rattle.sock_tcp.specs.declared.recovery.Before.{Before}
use Rattle.sock_tcp.specs.declared.undo.Undo.{Undo}

-- window and threshold of the controller; without congestion control there are none
abbrev pub IsAtLeast : AnyController → ℕ → ℕ → Type 0
IsAtLeast (controller.None n) window threshold = Unit {0}
IsAtLeast (controller.Reno r) window threshold = (window ≤ r.cwnd) × (threshold ≤ r.ssthresh)
IsAtLeast (controller.Cubic c) window threshold = (window ≤ c.reno.cwnd) × (threshold ≤ c.reno.ssthresh)

-- as before the recovery of which this was kept
pub record IsAsBefore (u : Undo) (w : View) : Type 0 where
  pub controller : IsAtLeast w.congestion_controller u.window u.threshold
  pub unmarked : w.pending_fast_retransmit ≡ false
  pub nothing : w.undo ≡ nothing_to_undo

-- The segment s came to v, and w is what it left so far. Where it shows that the recovery was for nothing, that is
-- undone
abbrev pub UndoesWhatWasForNothing : Type 0
UndoesWhatWasForNothing =
    (v w : View) (s : Segment) (now : Instant)
    → is_undone (before_of v s) w ≡ true
    → IsAsBefore w.undo (recovered (before_of v s) w now)

-- the first echo of something new decides
abbrev pub FirstEchoDecides : Type 0
FirstEchoDecides =
    (v w : View) (s : Segment) (now : Instant)
    → is_decided (before_of v s) w ≡ true
    → (recovered (before_of v s) w now).undo ≡ nothing_to_undo

-- and then nothing more is undone, whatever is told
abbrev pub NothingIsUndoneTwice : Type 0
NothingIsUndoneTwice = (b : Before) (w : View) → w.undo ≡ nothing_to_undo → is_undone b w ≡ false
