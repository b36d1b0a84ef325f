-- What is kept of the time before a recovery, and what undoes one that was for nothing: nothing was lost, a segment
-- came late (RFC 3522, RFC 4015; RFC 3708).
use Rattle.std.specs.Prelude.{ℕ, ◌+◌, ◌-◌, ◌==◌, ◌&&◌, max, Option, Some, None, Bool, false, not}
use Rattle.std.specs.Prelude.{if◌then◌else◌}
use Rattle.control_wire.specs.Seq.{seq_of}
use Rattle.control_wire.specs.declared.seq_number.TcpSeqNumber.{TcpSeqNumber}
use Rattle.sock_core.specs.Congestion.{capped, congestion_window, threshold_of}
use Rattle.sock_core.specs.Seq.{is_before}
use Rattle.sock_core.specs.declared.congestion.AnyController.{AnyController}
use Rattle.sock_tcp.specs.declared.emission.Emitted.{Emitted}
use Rattle.sock_tcp.specs.declared.recovery.Recovery.{Recovery}
use Rattle.sock_tcp.specs.declared.recovery.Recovery.TheVariants as recovery
use Rattle.sock_tcp.specs.declared.rules.Rules.{Rules}
use Rattle.sock_tcp.specs.declared.rules.Rules.TheVariants as rules
use Rattle.sock_tcp.specs.declared.undo.Undo.{Undo}

abbrev pub nothing_to_undo : Undo
nothing_to_undo = record { window = 0; threshold = 0; stamp = None; resent = 0 }

abbrev pub saved : ℕ → ℕ → Undo
saved window threshold = record { window = window; threshold = threshold; stamp = None; resent = 0 }

abbrev pub may_undo : Undo → Bool
may_undo u = not (u.threshold == 0)

-- ---- a recovery begins: window and threshold are kept as they were (RFC 4015, section 3.2)

abbrev pub undo_marked : Rules → Undo → AnyController → Undo
undo_marked rules.Smoltcp u c = u
undo_marked rules.Rfc u c = saved (congestion_window c) (threshold_of c)

-- at a timeout the threshold alone, as large as the window, which grows up to that in slow start. The first of several
-- counts, and none in a fast recovery
abbrev pub undo_timed_out : Rules → Recovery → Undo → AnyController → Undo
undo_timed_out rules.Smoltcp r u c = u
undo_timed_out rules.Rfc (recovery.Timeout point) u c = u
undo_timed_out rules.Rfc (recovery.Fast point high_rxt resent_at acked trailed una_lost) u c = nothing_to_undo
undo_timed_out rules.Rfc r u c = saved 0 (max (congestion_window c) (threshold_of c))

-- ---- a segment went out in it

abbrev pub first_of : Option ℕ → Option ℕ → Option ℕ
first_of None next = next
first_of (Some t) next = Some t

-- the timestamp of the first one is kept, and how many bytes went out again
abbrev pub sent_again : Undo → Emitted → Undo
sent_again u s =
    record {
      window = u.window;
      threshold = u.threshold;
      stamp = first_of u.stamp s.stamp;
      resent = capped (u.resent + s.len);
    }

-- with SND.NXT there: what begins before it, and all after a timeout
abbrev pub undo_sent : Recovery → Undo → TcpSeqNumber → Emitted → Undo
undo_sent (recovery.Fast point high_rxt resent_at acked trailed una_lost) u nxt s =
    if is_before s.seq_number nxt && not (s.len == 0) then sent_again u s else u
undo_sent (recovery.Timeout point) u nxt s = if s.len == 0 then u else sent_again u s
undo_sent r u nxt s = u

-- ---- a segment is heard

-- it echoes a timestamp from before that of what went out again first: it was sent for the first sending (RFC 3522,
-- section 3.2)
abbrev pub is_older : Option ℕ → Option ℕ → Bool
is_older (Some echo) (Some stamp) = is_before (seq_of echo) (seq_of stamp)
is_older echo stamp = false

-- so many bytes came twice
abbrev pub counted_again : Undo → ℕ → Undo
counted_again u twice =
    record { window = u.window; threshold = u.threshold; stamp = u.stamp; resent = u.resent - twice }
