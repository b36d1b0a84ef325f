-- What an emit that answered Ok changes.
use Rattle.std.specs.Prelude.{Option, Some, None, is_some, max, nat_le, Bool, true, false, not, ◌==◌, ◌&&◌, ◌||◌}
use Rattle.std.specs.Prelude.{if◌then◌else◌}
use Rattle.net_base.specs.declared.time.Instant.{Instant}
use Rattle.control_wire.specs.Seq.{seq_add, seq_eq}
use Rattle.control_wire.specs.Segment.{Segment, segment_len}
use Rattle.control_wire.specs.declared.seq_number.TcpSeqNumber.{TcpSeqNumber}
use Rattle.sock_core.specs.Congestion.{post_transmitted}
use Rattle.sock_core.specs.Seq.{is_before, later_of}
use Rattle.sock_tcp.specs.Content.{carries_data, Sending, hole_of}
use Rattle.sock_tcp.specs.Due.{is_closed, is_counted, recovery_left}
use Rattle.sock_tcp.specs.Rfc.Idle.{idle_by, restarted_by}
use Rattle.sock_tcp.specs.Rfc.RoundTrips.{sending_measured, stamp_of}
use Rattle.sock_tcp.specs.Rfc.TailLoss.{tail_armed}
use Rattle.sock_tcp.specs.Rfc.Undo.{undo_sent}
use Rattle.sock_tcp.specs.Timers.{keep_alive_renewed, probe_doubled, retransmit_unless_set}
use Rattle.sock_tcp.specs.View.{View}
use Rattle.sock_tcp.specs.declared.emission.Kind.{Kind}
use Rattle.sock_tcp.specs.declared.emission.Kind.TheVariants as kind
use Rattle.sock_tcp.specs.declared.emission.Emitted.{Emitted}
use Rattle.sock_tcp.specs.declared.recovery.Recovery.{Recovery}
use Rattle.sock_tcp.specs.declared.recovery.Recovery.TheVariants as recovery
use Rattle.sock_tcp.specs.declared.timer.AckDelayTimer.TheVariants as ack_delay

-- what is kept of a segment once it went out
abbrev pub emitted_as : Kind → Segment → Emitted
emitted_as k s =
    record {
      kind = k;
      seq_number = s.seq_number;
      len = segment_len s;
      end = seq_add s.seq_number (segment_len s);
      ack_number = s.ack_number;
      window_len = s.window_len;
      stamp = stamp_of s.timestamp;
    }

-- any segment: the next keep-alive moves, no acknowledgement waits, and a fast retransmission is done
unfoldable pub after_any : View → Instant → View
after_any v now =
    record v {
      timer = keep_alive_renewed v.timer now v.keep_alive;
      ack_delay_timer = ack_delay.Idle;
      pending_fast_retransmit = v.pending_fast_retransmit && not (carries_data v.state);
    }

-- a probe: the next one comes later
unfoldable pub after_probe : View → Instant → View
after_probe v now = record v { timer = probe_doubled v.timer now }

-- what begins before SND.NXT is sent again
abbrev pub is_resent : TcpSeqNumber → Emitted → Bool
is_resent nxt s = is_before s.seq_number nxt && not (s.len == 0)

-- HighRxt of a recovery moves behind it (RFC 6675, section 2). Where the segment at SND.UNA was lost again, that is
-- what went out, and what is told next is measured from now on; else it trails new bytes, where some went out since
abbrev pub resent_by : Recovery → TcpSeqNumber → Emitted → Recovery
resent_by (recovery.Fast point high_rxt resent_at acked trailed una_lost) nxt s =
    recovery.Fast point
    (if is_resent nxt s then later_of high_rxt s.end else high_rxt)
    (if is_resent nxt s && una_lost then later_of nxt point else resent_at)
    acked
    (if is_resent nxt s then not una_lost && (trailed || not (seq_eq nxt resent_at)) else trailed)
    (not (is_resent nxt s) && una_lost)
resent_by r nxt s = r

-- SND.NXT moves behind the segment, its acknowledgement and window are the last sent, and the RST of a closed socket
-- ends it
unfoldable pub snd_nxt_moved : View → Emitted → View
snd_nxt_moved v s =
    record v {
      remote_last_seq = later_of v.remote_last_seq s.end;
      recovery = resent_by v.recovery v.remote_last_seq s;
      undo = undo_sent v.recovery v.undo v.remote_last_seq s;
      remote_last_ack = s.ack_number;
      remote_last_win = s.window_len;
      tuple = if is_closed v.state then None else v.tuple;
    }

-- in a recovery that counts what is in the network, the next hole that the peer's window takes goes out at once while
-- there is room (RFC 6675, section 5)
abbrev pub goes_on : View → Bool
goes_on v = is_counted v && (is_some (hole_of v) && nat_le (max v.remote_mss 1) (recovery_left v))

-- what takes sequence numbers is timed, and waited for
unfoldable pub sending_timed : View → Instant → Emitted → View
sending_timed v now s =
    if s.len == 0 then v
    else record v {
      rtte = sending_measured v now s;
      timer = retransmit_unless_set v.timer now v.rtte;
      congestion_controller =
          post_transmitted (restarted_by v.rules v.idle_at now v.congestion_controller) now s.len;
      idle_at = idle_by v.rules v.idle_at now v.rtte;
      pending_fast_retransmit = v.pending_fast_retransmit || goes_on v;
    }

-- by kind; an acknowledgement that a probe or a keep-alive carries does not count as sent
abbrev pub after_kind : Kind → View → Instant → Emitted → View
after_kind kind.Plain v now s = tail_armed (sending_timed (snd_nxt_moved v s) now s) now s.len
after_kind kind.Probe v now s = after_probe v now
after_kind kind.KeepAlive v now s = v

unfoldable pub after_sending : View → Instant → Emitted → View
after_sending v now s = after_kind s.kind (after_any v now) now s

-- where the emit failed, nothing
abbrev pub after_emit : Bool → View → Instant → Emitted → View
after_emit true v now s = after_sending v now s
after_emit false v now s = v

-- the socket after the emit of what was to go out; ok: the emit answered Ok
abbrev pub left_by : Option Sending → View → Instant → Bool → View
left_by None v now ok = v
left_by (Some s) v now ok = after_emit ok v now (emitted_as s.kind s.segment)
