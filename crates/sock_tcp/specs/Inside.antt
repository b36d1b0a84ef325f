-- What a segment does to a socket: what lies outside of the window, and what inside.
use Rattle.std.specs.Prelude.{ℕ, List, length, int_lt, Option, Some, None}
use Rattle.std.specs.Prelude.{◌==◌, ◌&&◌, if◌then◌else◌}
use Rattle.ip_wire.specs.IpHeader.{src_addr_of, dst_addr_of}
use Rattle.ip_wire.specs.declared.repr.IpRepr.{IpRepr}
use Rattle.net_base.specs.declared.time.Instant.{Instant}
use Rattle.control_wire.specs.Segment.{Segment}
use Rattle.control_wire.specs.declared.tcp.TcpControl.{TcpControl}
use Rattle.control_wire.specs.declared.tcp.TcpControl.TheVariants as control
use Rattle.sock_core.specs.Received.{makes_fifth_range, holds_nothing}
use Rattle.sock_tcp.specs.Acked.{acked_of}
use Rattle.sock_tcp.specs.Advance.{Advance, advanced}
use Rattle.sock_tcp.specs.Arrival.{Arrival}
use Rattle.sock_tcp.specs.View.{View}
use Rattle.sock_tcp.specs.Replies.{rst_segment, ack_segment, ack_kept}
use Rattle.sock_tcp.specs.Rfc.Duplicates.{with_duplicate}
use Rattle.sock_tcp.specs.Steps.{heard, joined, ack_delayed}
use Rattle.sock_tcp.specs.Timers.{after, close_from, challenge_interval}
use Rattle.sock_tcp.specs.declared.acked.Acked.{Acked}
use Rattle.sock_tcp.specs.declared.advance.Next.{Next}
use Rattle.sock_tcp.specs.declared.advance.Next.TheVariants as next
use Rattle.sock_tcp.specs.declared.process.Answer.{Answer}
use Rattle.sock_tcp.specs.declared.process.Answer.TheVariants as answers
use Rattle.sock_tcp.specs.declared.duplicates.Response.{Response}
use Rattle.sock_tcp.specs.declared.duplicates.Response.TheVariants as responses
use Rattle.sock_tcp.specs.declared.rules.Rules.{Rules}
use Rattle.sock_tcp.specs.declared.rules.Rules.TheVariants as rules
use Rattle.sock_tcp.specs.declared.timer.Timer.{Timer}
use Rattle.sock_tcp.specs.declared.state.State.{State}
use Rattle.sock_tcp.specs.declared.state.State.TheVariants as state
use Rattle.sock_tcp.specs.declared.tuple.Tuple.{Tuple}

-- a socket after a segment, and the reply
pub record Outcome : Type 0 where
  pub view : View
  pub reply : Option Segment

abbrev pub stopped : View → Outcome
stopped v = record { view = v; reply = None }

abbrev pub ack_sent : View → Segment → Outcome
ack_sent v s = record { view = ack_kept v; reply = Some (ack_segment v s) }

abbrev pub rst_sent : View → Segment → Outcome
rst_sent v s = record { view = v; reply = Some (rst_segment s) }

abbrev pub answered : Answer → View → Segment → Outcome
answered answers.Nothing v s = stopped v
answered answers.Ack v s = ack_sent v s
answered answers.Rst v s = rst_sent v s

-- the same, where an ACK tells that so many of the segment's first bytes came before
abbrev pub responded : Response → View → Segment → Outcome
responded responses.Nothing v s = stopped v
responded (responses.Ack n) v s =
    record { view = ack_kept v; reply = Some (with_duplicate n s (ack_segment v s)) }
responded responses.Rst v s = rst_sent v s

-- an ACK, at most one a second
unfoldable pub challenged : View → Instant → Segment → Outcome
challenged v now s =
    if int_lt now.micros v.challenge_ack_timer.micros then stopped v
    else ack_sent (record v { challenge_ack_timer = after now challenge_interval }) s

-- ---- a segment outside of the window

abbrev pub timer_restarted : State → Timer → Instant → Timer
timer_restarted state.TimeWait t now = close_from now
timer_restarted _ t now = t

-- TIME-WAIT begins anew
unfoldable pub close_restarted : View → Instant → View
close_restarted v now = record v { timer = timer_restarted v.state v.timer now }

-- an RST says nothing; n bytes are acknowledged again; all else is challenged
abbrev pub outside_by : TcpControl → ℕ → View → Instant → Segment → Outcome
outside_by control.Rst n v now s = stopped v
outside_by control.Syn n v now s = challenged (close_restarted v now) now s
outside_by c n v now s =
    if n == 0 then challenged (close_restarted v now) now s else ack_sent (close_restarted v now) s

unfoldable pub outside : View → Instant → Segment → Outcome
outside v now s = outside_by s.control (length s.payload) v now s

-- ---- a segment inside

abbrev pub tuple_of : IpRepr → Segment → Tuple
tuple_of ip s =
    record {
      local = record { addr = dst_addr_of ip; port = s.dst_port };
      remote = record { addr = src_addr_of ip; port = s.src_port };
    }

-- v is the socket before the bytes came, w after: an ACK tells of a gap, and that one is closed
abbrev pub gap_answered : View → View → Segment → Outcome
gap_answered v w s =
    if holds_nothing v.rx_buffer.held && holds_nothing w.rx_buffer.held then stopped w else ack_sent w s

-- bytes for which there is no place are refused; by the RFCs' rules they are acknowledged at once, as all behind a gap
-- (RFC 5681, section 4.2)
abbrev pub without_place : Rules → View → Segment → Outcome
without_place rules.Smoltcp v s = stopped v
without_place rules.Rfc v s = ack_sent v s

-- the bytes bs came, o past RCV.NXT
unfoldable pub bytes_taken : View → Instant → ℕ → List ℕ → Segment → Outcome
bytes_taken v now o bs s =
    if length bs == 0 then stopped v
    else (if makes_fifth_range v.rx_buffer o bs then without_place v.rules v s
    else gap_answered v (ack_delayed (joined v o bs) now) s)

abbrev pub after_advance : Next → View → Arrival → Acked → ℕ → List ℕ → Outcome
after_advance next.Stop v a k o bs = stopped v
after_advance next.Challenge v a k o bs = challenged v a.now a.segment
after_advance next.Continue v a k o bs = bytes_taken (heard v a.now k a.segment) a.now o bs a.segment

abbrev pub after_table : Advance → Arrival → Acked → ℕ → List ℕ → Outcome
after_table t a k o bs = after_advance t.next t.view a k o bs

-- what the segment acknowledges
abbrev pub acked_by : View → Arrival → Acked
acked_by v a = acked_of v a.segment.control a.segment.ack_number

-- with the control bit that counts, and the bytes that the window takes
unfoldable pub processed_inside : View → Arrival → TcpControl → ℕ → List ℕ → Outcome
processed_inside v a c o bs = after_table (advanced v c a (acked_by v a)) a (acked_by v a) o bs
