-- `accepts` and `process` whole.
use Rattle.std.specs.Prelude.{ℕ, ◌≡◌, ◌<◌, [], length, Option, Some, None, Bool, true, false}
use Rattle.std.specs.Prelude.{if◌then◌else◌, option_map}
use Rattle.std.specs.Option.{ForSome}
use Rattle.ip_wire.specs.IpHeader.{src_addr_of, dst_addr_of}
use Rattle.ip_wire.specs.declared.endpoint.IpListenEndpoint.{IpListenEndpoint}
use Rattle.ip_wire.specs.declared.repr.IpRepr.{IpRepr}
use Rattle.net_base.specs.declared.time.Instant.{Instant}
use Rattle.control_wire.specs.Fits.{FitsPacket}
use Rattle.control_wire.specs.Segment.{Segment, segment_of}
use Rattle.control_wire.specs.declared.tcp.TcpControl.{TcpControl}
use Rattle.control_wire.specs.declared.tcp.TcpControl.TheVariants as control
use Rattle.control_wire.specs.declared.tcp.TcpRepr.{TcpRepr}
use Rattle.control_wire.specs.declared.tcp.TcpTimestampRepr.{TcpTimestampRepr}
use Rattle.sock_core.specs.Facts.{Facts}
use Rattle.sock_tcp.specs.Advance.{counted_control}
use Rattle.sock_tcp.specs.Arrival.{Arrival, arrival}
use Rattle.sock_tcp.specs.Closing.{closed_late}
use Rattle.sock_tcp.specs.Draw.{draws, Draws}
pub use Rattle.sock_tcp.specs.Inside.{Outcome, stopped, ack_sent, rst_sent, answered, timer_restarted, outside_by}
pub use Rattle.sock_tcp.specs.Inside.{responded}
pub use Rattle.sock_tcp.specs.Inside.{without_place}
pub use Rattle.sock_tcp.specs.Inside.{tuple_of, gap_answered, after_advance, after_table, acked_by}
unfoldable pub use Rattle.sock_tcp.specs.Inside.{challenged, close_restarted, outside, bytes_taken, processed_inside}
use Rattle.sock_tcp.specs.Rfc.Checks.{verdict_by}
use Rattle.sock_tcp.specs.Rfc.Duplicates.{duplicate_told}
use Rattle.sock_tcp.specs.Rfc.Numbers.{reply_numbered}
use Rattle.sock_tcp.specs.Rfc.Recovery.{recovered_by}
use Rattle.sock_tcp.specs.Rfc.Refused.{refused}
use Rattle.sock_tcp.specs.Rfc.Windows.{windowed}
use Rattle.sock_tcp.specs.View.{View, moment_of}
use Rattle.sock_tcp.specs.Verdict.{verdict_of}
pub use Rattle.sock_tcp.specs.Window.{has_window}
use Rattle.sock_tcp.specs.Window.{accepted_window, is_inside, cut_of, cut_bytes}
use Rattle.sock_tcp.specs.declared.window.Cut.{Cut}
use Rattle.sock_tcp.specs.declared.window.Window.{Window}
use Rattle.sock_tcp.specs.Replies.{Answers}
use Rattle.sock_tcp.specs.declared.rules.Rules.{Rules}
use Rattle.sock_tcp.specs.declared.rules.Rules.TheVariants as rules
use Rattle.sock_tcp.specs.declared.state.State.{State}
use Rattle.sock_tcp.specs.declared.state.State.TheVariants as state
use Rattle.sock_tcp.specs.declared.tuple.Tuple.{Tuple}
use Rattle.sock_tcp.specs.declared.verdict.Verdict.{Verdict}
use Rattle.sock_tcp.specs.declared.verdict.Verdict.TheVariants as verdicts

-- ---- accepts

-- all four of addresses and ports match
pub record IsBetween (t : Tuple) (ip : IpRepr) (s : Segment) : Type 0 where
  pub local_addr : dst_addr_of ip ≡ t.local.addr
  pub local_port : s.dst_port ≡ t.local.port
  pub remote_addr : src_addr_of ip ≡ t.remote.addr
  pub remote_port : s.src_port ≡ t.remote.port

-- the destination is the listen address, where one is given, and the listen port
pub record IsToListener (e : IpListenEndpoint) (ip : IpRepr) (s : Segment) : Type 0 where
  pub addr : ForSome e.addr (λ a. dst_addr_of ip ≡ a)
  pub port : s.dst_port ≡ e.port
  pub not_zero : 0 < s.dst_port

abbrev pub IsAddressed : Option Tuple → IpListenEndpoint → IpRepr → Segment → Type 0
IsAddressed (Some t) e ip s = IsBetween t ip s
IsAddressed None e ip s = IsToListener e ip s

-- in LISTEN neither an acknowledgement nor an RST is for the socket
pub record Opens (s : Segment) : Type 0 where
  pub no_ack : s.ack_number ≡ None
  pub no_reset : s.control ≡ control.Rst → ⊥

abbrev pub AcceptsIn : State → View → IpRepr → Segment → Type 0
AcceptsIn state.Closed v ip s = ⊥
AcceptsIn state.Listen v ip s = Opens s × IsAddressed v.tuple v.listen_endpoint ip s
AcceptsIn _ v ip s = IsAddressed v.tuple v.listen_endpoint ip s

-- the segment is for this socket
abbrev pub Accepts : View → IpRepr → Segment → Type 0
Accepts v ip s = AcceptsIn v.state v ip s

-- ---- process
-- Each definition stands below those that it names, so the rules are read from the end, in this order: `processed`
-- asks for the verdict, which is by the socket's rules (`Rfc/Checks.antt`), and which window the segment tells by these
-- (`Rfc/Windows.antt`); `by_verdict` drops, resets, challenges or lets pass; `tested` tests the window in which a
-- segment is taken by these rules, in a state that has one, and `recovered_by` (`Rfc/Recovery.antt`) does by the
-- socket's rules what is done of loss then, `closed_then` a close that waited, and `told_then` lets the answer tell
-- what came twice (`Rfc/Duplicates.antt`); `cut_inside` cuts what lies inside, and `refused` (`Rfc/Refused.antt`) does
-- by the socket's rules what is done outside. The rest stands in `Inside.antt`:
-- `outside` answers a segment; `processed_inside` goes through the state table; `after_advance` stops, challenges or
-- hears the acknowledgement; `bytes_taken` takes the bytes and answers a gap.

-- a segment inside the window is cut to it, and its number is remembered
abbrev pub cut_inside : Window → Cut → View → Arrival → Outcome
cut_inside w cut v a =
    processed_inside (record v { local_rx_last_seq = Some a.segment.seq_number }) a
    (counted_control a.segment.control w a.segment.seq_number (length a.segment.payload)) cut.offset
    (cut_bytes cut a.segment.payload)

-- what lies outside is refused, by these rules
abbrev pub tested_by : Rules → Bool → View → Arrival → Outcome
tested_by r false v a = processed_inside v a a.segment.control 0 []
tested_by r true v a =
    if is_inside (accepted_window r v) a.segment.seq_number (length a.segment.payload)
    then cut_inside (accepted_window r v)
    (cut_of (accepted_window r v) a.segment.seq_number (length a.segment.payload)) v a
    else refused r v a

abbrev pub tested : Bool → View → Arrival → Outcome
tested b v a = tested_by v.rules b v a

-- by the RFCs' rules a close that waited for the SYN's acknowledgement is done then
abbrev pub closed_then : Rules → Outcome → Outcome
closed_then rules.Smoltcp o = o
closed_then rules.Rfc o = record { view = closed_late o.view; reply = o.reply }

-- and the answer tells what came twice
abbrev pub told_then : Rules → View → Segment → Outcome → Outcome
told_then r v s o = record { view = o.view; reply = duplicate_told r v s o.reply }

abbrev pub by_verdict : Rules → Verdict → View → Arrival → Outcome
by_verdict r verdicts.Drop v a = stopped v
by_verdict r verdicts.Reset v a = rst_sent v a.segment
by_verdict r verdicts.Challenge v a = challenged v a.now a.segment
by_verdict r verdicts.Pass v a =
    told_then r v a.segment (closed_then r (recovered_by r v a.now a.segment (tested_by r (has_window v.state) v a)))

unfoldable pub processed_by : Rules → View → Instant → ℕ → IpRepr → Segment → Outcome
processed_by r v now word ip s =
    by_verdict r (verdict_by r v now s) v (arrival now (tuple_of ip s) word (windowed r v s))

-- by the socket's own rules
abbrev pub processed : View → Instant → ℕ → IpRepr → Segment → Outcome
processed v now word ip s = processed_by v.rules v now word ip s

-- ---- the source of timestamps

-- it stays while segments carry a timestamp, and else leaves for good
abbrev pub source_kept : {G : Type 0} → Bool → Option G → Option G
source_kept stamps g = if stamps then g else None

-- ---- the call

-- a reply by value
abbrev pub reply_of : IpRepr × TcpRepr → IpRepr × Segment
reply_of r = (r.0, segment_of r.1)

-- The socket, the reply and the context after a segment: only a SYN in LISTEN draws a random word. The reply can be
-- written as a packet and read back
pub record Processes {C : Type 0} (facts : C → Facts) (word_at : C → ℕ → ℕ)
    (stamped : TcpControl → Option TcpTimestampRepr → Type 0) (v : View) (cx : C)
    (ip : IpRepr) (s : Segment) (reply : Option (IpRepr × TcpRepr)) (w : View) (cx' : C) : Type 0 where
  pub view : w ≡ (processed v (moment_of (facts cx)) (word_at cx 0) ip s).view
  pub answer : Answers stamped ip (reply_numbered w (processed v (moment_of (facts cx)) (word_at cx 0) ip s).reply)
      (option_map reply_of reply)
  pub bare : ForSome reply (λ r. r.1.payload.now ≡ [])
  pub fits : ForSome (option_map reply_of reply) (λ r. FitsPacket r.0 r.1)
  pub context : Draws (draws (verdict_of v s.control s.ack_number) v.state s.control) facts word_at cx cx'
