-- How a dispatch begins: what comes before the reasons to send.
use Rattle.std.specs.Prelude.{ℕ, length, max, min, Option, Some, None, Bool, true, false, not, if◌then◌else◌}
use Rattle.net_base.specs.declared.time.Instant.{Instant}
use Rattle.sock_core.specs.Congestion.{congestion_window, lost, pre_transmitted, timed_out}
use Rattle.sock_core.specs.Estimator.{backed_off, retransmitted}
use Rattle.sock_core.specs.Facts.{Facts}
use Rattle.sock_tcp.specs.Advance.{dropped}
use Rattle.sock_tcp.specs.Due.{flight, flight_lost, is_due, usable}
use Rattle.sock_tcp.specs.Opening.{renewed}
use Rattle.sock_tcp.specs.Polls.{is_reached, timeout_poll}
use Rattle.sock_tcp.specs.Rfc.Recovery.{begun_by, marked_by, timed_out_by}
use Rattle.sock_tcp.specs.Rfc.Scoreboard.{nothing_told}
use Rattle.sock_tcp.specs.Rfc.TailLoss.{probes_tail, tail_probed}
use Rattle.sock_tcp.specs.Rfc.Undo.{undo_marked, undo_timed_out}
use Rattle.sock_tcp.specs.Rfc.UserTimeout.{timeout_of}
use Rattle.sock_tcp.specs.Timers.{is_over, is_close_over}
use Rattle.sock_tcp.specs.View.{View, moment_of}
use Rattle.sock_tcp.specs.declared.rules.Rules.{Rules}
use Rattle.sock_tcp.specs.declared.rules.Rules.TheVariants as rules
use Rattle.sock_tcp.specs.declared.state.State.{State}
use Rattle.sock_tcp.specs.declared.state.State.TheVariants as state
use Rattle.sock_tcp.specs.declared.timer.Timer.{Timer}
use Rattle.sock_tcp.specs.declared.timer.Timer.TheVariants as timer
use Rattle.sock_tcp.specs.declared.tuple.Tuple.{Tuple}

-- a socket after a part of a dispatch, and whether the dispatch goes on
pub record Begun : Type 0 where
  pub view : View
  pub goes_on : Bool

abbrev pub ended : View → Begun
ended v = record { view = v; goes_on = false }

abbrev pub going_on : View → Begun
going_on v = record { view = v; goes_on = true }

-- to whom it goes on: the socket's peer
abbrev pub peer_of : Begun → Option Tuple
peer_of b = if b.goes_on then b.view.tuple else None

-- ---- when the last segment came

abbrev pub last_ts_set_at : Option Instant → View → Instant → View
last_ts_set_at None v now = record v { remote_last_ts = Some now }
last_ts_set_at (Some last) v now = v

-- now, where it was forgotten
unfoldable pub last_ts_set : View → Instant → View
last_ts_set v now = last_ts_set_at v.remote_last_ts v now

-- the controller is told that a segment may go out
abbrev pub told_ready : View → Instant → View
told_ready v now = record v { congestion_controller = pre_transmitted v.congestion_controller now }

-- both
unfoldable pub readied : View → Instant → View
readied v now = told_ready (last_ts_set v now) now

-- ---- the timers

-- the retransmission timer is over: all behind SND.UNA is sent again (RFC 6298, section 5), also what was told by SACK,
-- which the peer may have given up (RFC 2018, section 8)
unfoldable pub retransmission_begun : View → Instant → View
retransmission_begun v now =
    record v {
      congestion_controller = timed_out v.congestion_controller now (flight v);
      remote_last_seq = v.local_seq_no;
      rtte = retransmitted (backed_off v.rtte);
      timer =
          begun_by v.rules v.remote_win_len (length v.tx_buffer.bytes) now v.keep_alive
          (retransmitted (backed_off v.rtte));
      recovery = timed_out_by v.rules v.recovery v.remote_last_seq;
      sacked = nothing_told;
      undo = undo_timed_out v.rules v.recovery v.undo v.congestion_controller;
    }

-- a fast retransmission is marked (RFC 5681, section 3.2)
unfoldable pub fast_retransmission_marked : View → Instant → View
fast_retransmission_marked v now =
    record v {
      congestion_controller =
          lost v.congestion_controller now
          (flight_lost v.rules (flight v) (usable v) (congestion_window v.congestion_controller));
      pending_fast_retransmit = true;
      rtte = retransmitted v.rtte;
      timer = marked_by v.rules now v.keep_alive (retransmitted v.rtte);
      undo = undo_marked v.rules v.undo v.congestion_controller;
    }

-- a window is to be probed for: by the RFCs' rules with the byte at SND.UNA, so that SND.NXT goes back, and what was
-- in flight goes out again once there is a window (RFC 9293, section 3.8.6)
abbrev pub probing_begun : Rules → View → View
probing_begun rules.Smoltcp v = v
probing_begun rules.Rfc v =
    record v {
      remote_last_seq = v.local_seq_no;
      rtte = retransmitted v.rtte;
      recovery = timed_out_by v.rules v.recovery v.remote_last_seq;
    }

abbrev pub after_timer : Timer → View → Instant → View
after_timer (timer.Retransmit t) v now = if is_over t now then retransmission_begun v now else v
after_timer timer.FastRetransmit v now = fast_retransmission_marked v now
after_timer (timer.ZeroWindowProbe t delay) v now = if is_over t now then probing_begun v.rules v else v
after_timer _ v now = v

-- a tail-loss probe goes out, or what the timer asks for
abbrev pub timers_by : Bool → View → Instant → View
timers_by true v now = tail_probed v now
timers_by false v now = after_timer v.timer v now

-- the user timeout is over, which by the RFCs' rules runs while the peer owes something: CLOSED, and the timer is left
-- alone. Else a probe, or what the timer asks for
unfoldable pub after_timers : View → Instant → View
after_timers v now =
    if is_reached (timeout_poll (timeout_of v) v.remote_last_ts) now then record v { state = state.Closed }
    else timers_by (probes_tail v now) v now

-- ---- the beginning, in this order: no peer, the local address gone, the moment of the last segment, the timers, a
-- SYN|ACK that is paused

abbrev pub is_paused : State → Bool → Bool
is_paused state.SynReceived paused = paused
is_paused _ paused = false

abbrev pub unless_paused : View → Begun
unless_paused v = record { view = v; goes_on = not (is_paused v.state v.synack_paused) }

-- without the local address the socket is reset
abbrev pub begun_to : Option Tuple → View → Facts → Begun
begun_to None v f = ended v
begun_to (Some t) v f =
    if f.has_address t.local.addr
    then unless_paused (after_timers (readied v (moment_of f)) (moment_of f))
    else ended (renewed v)

unfoldable pub begun : View → Facts → Begun
begun v f = begun_to v.tuple v f

-- ---- the beginning and the reasons

-- TIME-WAIT is over: by smoltcp's rules the socket is reset; by the RFCs' it is CLOSED as after LAST-ACK, so that what
-- was received can be read (RFC 9293, section 3.10.4)
abbrev pub time_wait_ended : Rules → View → View
time_wait_ended rules.Smoltcp v = renewed v
time_wait_ended rules.Rfc v = dropped v

-- nothing is due: TIME-WAIT may be over
unfoldable pub nothing_due : View → Instant → View
nothing_due v now = if is_close_over v.timer now then time_wait_ended v.rules v else v

abbrev pub by_due : Bool → View → Facts → Begun
by_due true v f = going_on v
by_due false v f = ended (nothing_due v (moment_of f))

abbrev pub before_emit_to : Option Tuple → View → Facts → Begun
before_emit_to None v f = ended v
before_emit_to (Some t) v f = by_due (is_due v t f) v f

-- the socket before the emit, and whether the segment of the state goes to its peer
unfoldable pub before_emit : View → Facts → Begun
before_emit v f = before_emit_to (peer_of (begun v f)) (begun v f).view f
