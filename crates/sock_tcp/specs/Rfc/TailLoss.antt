-- Tail-loss probes, by the RFCs' rules (RFC 8985, section 7): where the acknowledgements stop, one segment goes out
-- before the retransmission timer is over, so that a loss at the end of a flight is told by SACK.
use Rattle.std.specs.Prelude.{ℕ, ◌+◌, ◌-◌, ◌*◌, nat_lt, nat_le, length, max, min, is_some, Bool, true, false, not}
use Rattle.std.specs.Prelude.{◌==◌, ◌&&◌, ◌||◌, if◌then◌else◌}
use Rattle.control_wire.specs.Seq.{seq_add}
use Rattle.net_base.specs.declared.time.Duration.{Duration}
use Rattle.net_base.specs.declared.time.Instant.{Instant}
use Rattle.sock_core.specs.Congestion.{congestion_window, lost}
use Rattle.sock_core.specs.Estimator.{Estimator, retransmitted, srtt_of}
use Rattle.sock_core.specs.declared.congestion.AnyController.{AnyController}
use Rattle.sock_tcp.specs.Content.{carries_data}
use Rattle.sock_tcp.specs.Due.{flight, flight_lost, sendable, timestamp_room, usable}
use Rattle.sock_tcp.specs.Rfc.Reordering.{is_late}
use Rattle.sock_tcp.specs.Rfc.Undo.{undo_marked}
use Rattle.sock_tcp.specs.Timers.{after, is_over, retransmit_from}
use Rattle.sock_tcp.specs.View.{View}
use Rattle.sock_tcp.specs.declared.recovery.Recovery.{Recovery}
use Rattle.sock_tcp.specs.declared.recovery.Recovery.TheVariants as recovery
use Rattle.sock_tcp.specs.declared.rules.Rules.{Rules}
use Rattle.sock_tcp.specs.declared.rules.Rules.TheVariants as rules
use Rattle.sock_tcp.specs.declared.timer.Timer.{Timer}
use Rattle.sock_tcp.specs.declared.timer.Timer.TheVariants as timer
use Rattle.sock_tcp.specs.declared.undo.Undo.{Undo}
pub use Rattle.sock_tcp.specs.Timers.{sooner}

-- ---- how long it waits (section 7.2)

-- beyond two round trips, in milliseconds: where one segment alone is out, as long as the peer may wait with its
-- acknowledgement
abbrev pub margin_of : Bool → ℕ
margin_of alone = if alone then 200 else 10

-- at most as long as a retransmission
abbrev pub tail_wait : Estimator → Bool → Duration
tail_wait e alone = record { micros = min ((2 * srtt_of e.smoothed + margin_of alone) * 1000) (e.rto * 1000) }

abbrev pub tail_from : Instant → Estimator → Bool → Timer
tail_from now e alone = timer.Retransmit (after now (tail_wait e alone))

abbrev pub is_alone : View → Bool
is_alone v = nat_le (flight v) v.remote_mss

-- ---- whether one goes out (sections 7.1 and 7.3)

-- no loss was told, and no probe is out of which nothing was heard
abbrev pub is_calm : Recovery → Bool
is_calm recovery.Open = true
is_calm _ = false

-- bytes are in flight to a peer that tells by SACK and has a window, and a round trip was measured
abbrev pub may_probe : Recovery → View → Bool
may_probe r v =
    is_calm r && (v.remote_has_sack && (carries_data v.state && (not (length v.tx_buffer.bytes == 0)
    && (not (flight v == 0) && (not (v.remote_win_len == 0) && is_some v.rtte.smoothed)))))

abbrev pub may_probe_by : Rules → Bool → Bool
may_probe_by rules.Smoltcp may = false
may_probe_by rules.Rfc may = may

abbrev pub is_retransmission_over : Timer → Instant → Bool
is_retransmission_over (timer.Retransmit t) now = is_over t now
is_retransmission_over _ now = false

-- a loss was waited for (section 6.2), or a probe may go out
unfoldable pub may_speak : View → Bool
may_speak v = is_late v || may_probe v.recovery v

abbrev pub probes_tail : View → Instant → Bool
probes_tail v now = may_probe_by v.rules (may_speak v) && is_retransmission_over v.timer now

-- ---- what goes out (section 7.3)

-- the controller is told of a loss that was waited for, and what it was is kept, as by a fast retransmission
abbrev pub controller_lost_if : Bool → View → Instant → AnyController
controller_lost_if true v now =
    lost v.congestion_controller now
    (flight_lost v.rules (flight v) (usable v) (congestion_window v.congestion_controller))
controller_lost_if false v now = v.congestion_controller

abbrev pub undo_lost_if : Bool → View → Undo
undo_lost_if true v = undo_marked v.rules v.undo v.congestion_controller
undo_lost_if false v = v.undo

-- how long the last segment was, if all were full
abbrev pub last_len : View → ℕ
last_len v = min (flight v) (v.remote_mss - timestamp_room v.stamps)

-- whether that goes out again, or new bytes do
abbrev pub probe_of : View → Bool → Recovery
probe_of v again = recovery.Probe (seq_add v.local_seq_no (flight v - last_len v)) v.remote_last_seq again

abbrev pub tail_marked : View → View
tail_marked v = record v { recovery = probe_of v false }

-- no full segment of new bytes is to be had, one beyond the congestion window
abbrev pub repeats_tail : View → Bool
repeats_tail v = v.pending_fast_retransmit || nat_lt (sendable (tail_marked v)) (max v.remote_mss 1)

-- a fast recovery begins, with the segment at SND.UNA
abbrev pub recovery_of : View → Recovery
recovery_of v = recovery.Fast v.remote_last_seq v.local_seq_no v.remote_last_seq false false false

abbrev pub recovery_probed : Bool → View → Recovery
recovery_probed true v = recovery_of v
recovery_probed false v = probe_of v (repeats_tail v)

-- where a loss was waited for, a fast recovery begins; else a segment of new bytes goes out, or where none is to be had
-- the last one again. Then the retransmission timer runs
unfoldable pub probed_by : Bool → View → Instant → View
probed_by late v now =
    record v {
      recovery = recovery_probed late v;
      pending_fast_retransmit = late || repeats_tail v;
      rtte = retransmitted v.rtte;
      timer = retransmit_from now (retransmitted v.rtte);
      congestion_controller = controller_lost_if late v now;
      undo = undo_lost_if late v;
    }

unfoldable pub tail_probed : View → Instant → View
tail_probed v now = probed_by (is_late v) v now

-- ---- the timer that waits for news of the peer is that of the probe, where one may go out (section 7.2)
abbrev pub tail_waits : Bool → Timer → Instant → Estimator → Bool → Timer
tail_waits true (timer.Retransmit at) now e alone = tail_from now e alone
tail_waits _ t now e alone = t

-- ---- and where something that takes numbers goes out, as its moment is then, but no later than it was

abbrev pub tail_set : Timer → Instant → Estimator → Bool → Timer
tail_set (timer.Retransmit at) now e alone = timer.Retransmit (sooner at (after now (tail_wait e alone)))
tail_set t now e alone = t

abbrev pub tail_armed_if : Bool → View → Instant → View
tail_armed_if true v now = record v { timer = tail_set v.timer now v.rtte (is_alone v) }
tail_armed_if false v now = v

-- n numbers went out
unfoldable pub tail_armed : View → Instant → ℕ → View
tail_armed v now n = tail_armed_if (may_probe_by v.rules (not (n == 0) && may_probe v.recovery v)) v now
