-- Round trips by timestamps: what was sent again is timed by them, since their echo tells which sending is acknowledged
-- (RFC 6298, section 3; RFC 7323, section 4).
use Rattle.std.specs.Prelude.{ℕ, Option, Some, None, Bool, true, false}
use Rattle.net_base.specs.declared.time.Instant.{Instant}
use Rattle.control_wire.specs.declared.tcp.TcpTimestampRepr.{TcpTimestampRepr}
use Rattle.sock_core.specs.Estimator.{Estimator, echoed, is_awaited, sent, stamped}
use Rattle.sock_tcp.specs.Due.{is_opening}
use Rattle.sock_tcp.specs.Timers.{retransmit_from}
use Rattle.sock_tcp.specs.View.{View}
use Rattle.sock_tcp.specs.declared.emission.Emitted.{Emitted}
use Rattle.sock_tcp.specs.declared.rules.Rules.{Rules}
use Rattle.sock_tcp.specs.declared.rules.Rules.TheVariants as rules
use Rattle.sock_tcp.specs.declared.timer.Timer.{Timer}
use Rattle.sock_tcp.specs.declared.timer.Timer.TheVariants as timer

-- the timestamp that a segment has
abbrev pub stamp_of : Option TcpTimestampRepr → Option ℕ
stamp_of None = None
stamp_of (Some t) = Some t.tsval

-- and the one that it echoes
abbrev pub echo_of : Option TcpTimestampRepr → Option ℕ
echo_of None = None
echo_of (Some t) = Some t.tsecr

-- ---- something goes out that takes numbers

-- a SYN is timed by its number alone: where it was sent again, the timeout begins anew with three seconds, whatever its
-- round trip was (RFC 6298, rule 5.7)
abbrev pub stamp_timed : Rules → Bool → Estimator → Instant → Option ℕ → Estimator
stamp_timed rules.Rfc false e now (Some t) = stamped e now t
stamp_timed r opening e now stamp = e

-- a new number is timed by either rules, and by the RFCs' what is sent again by its timestamp
abbrev pub sending_measured : View → Instant → Emitted → Estimator
sending_measured v now s = stamp_timed v.rules (is_opening v.state) (sent v.rtte now s.end) now s.stamp

-- ---- a segment was heard, with this echo or none; news: it acknowledges something new

abbrev pub echo_heard : Bool → Option ℕ → Estimator → Instant → Estimator
echo_heard true (Some t) e now = echoed e now t
echo_heard news echo e now = e

abbrev pub is_sample : Bool → Option ℕ → Estimator → Bool
is_sample true (Some t) e = is_awaited e.stamp_timing t
is_sample news echo e = false

-- the retransmission timer, which the acknowledgement began anew, lasts as long as the sample says
abbrev pub begun_again : Bool → Timer → Instant → Estimator → Timer
begun_again true (timer.Retransmit at) now e = retransmit_from now e
begun_again sample t now e = t

abbrev pub echo_taken : Bool → Option ℕ → View → Instant → View
echo_taken news echo v now =
    record v {
      rtte = echo_heard news echo v.rtte now;
      timer = begun_again (is_sample news echo v.rtte) v.timer now (echo_heard news echo v.rtte now);
    }
