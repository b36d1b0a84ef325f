-- The calls that ask for a context, and those that take and give packets.
use Rattle.std.specs.Prelude.{ℕ, ℤ, pos, ◌≡◌, nat_le, Bool, true, List, length, Option, Some, None, option_map}
use Rattle.std.specs.Prelude.{Result, if◌then◌else◌}
use Rattle.ip_wire.specs.declared.repr.IpRepr.{IpRepr}
use Rattle.control_wire.specs.Segment.{Segment}
use Rattle.control_wire.specs.declared.tcp.TcpControl.{TcpControl}
use Rattle.control_wire.specs.declared.tcp.TcpControl.TheVariants as control
use Rattle.control_wire.specs.declared.tcp.TcpTimestampRepr.{TcpTimestampRepr}
use Rattle.sock_core.specs.Facts.{Facts}
use Rattle.sock_core.specs.declared.context.PollAt.{PollAt}
use Rattle.sock_core.specs.declared.context.PollAt.TheVariants as poll
use Rattle.sock_tcp.specs.Rfc.Numbers.{outgoing, reply_numbered}
use Rattle.sock_tcp.specs.Begin.{before_emit, peer_of}
use Rattle.sock_tcp.specs.Content.{asked, offset_of, content}
use Rattle.sock_tcp.specs.Dispatch.{packet_in}
use Rattle.sock_tcp.specs.Opening.{endpoints}
use Rattle.sock_tcp.specs.Process.{Accepts, Outcome, processed, source_kept}
use Rattle.sock_tcp.specs.Queue.{IsLent}
use Rattle.sock_tcp.specs.Replies.{echoed, rst_segment, with_header}
use Rattle.sock_tcp.specs.Sent.{left_by}
use Rattle.sock_tcp.specs.View.{View, moment_of}
use Rattle.sock_tcp.specs.declared.error.ConnectError.{ConnectError}
use Rattle.sock_tcp.specs.declared.tuple.Tuple.{Tuple}
use Rattle.smoltcp_c.specs.Answers.{error_room, not_accepted}
use Rattle.smoltcp_c.specs.Context.{facts_in}
use Rattle.smoltcp_c.specs.Numbers.{endpoint_in, listen_in}
use Rattle.smoltcp_c.specs.Wire.{packet_len, with_packet}
use Rattle.smoltcp_c.specs.declared.clock.Clock.{Clock}
use Rattle.smoltcp_c.specs.declared.context.Cx.{Cx}
use Rattle.smoltcp_c.specs.declared.endpoints.Endpoint.{Endpoint}
use Rattle.smoltcp_c.specs.Tcp.{clock_at}

-- ---- connect

-- the two ends, or what forbids a connection
abbrev pub ends_in : Cx → Endpoint → Endpoint → View → Result Tuple ConnectError
ends_in cx remote local v = endpoints v (facts_in cx) (endpoint_in remote) (listen_in local)

-- ---- poll_at

-- 1 where no dispatch is wanted before a packet comes
abbrev pub poll_answer : PollAt → ℤ
poll_answer poll.Now = pos 0
poll_answer (poll.Time t) = pos 0
poll_answer poll.Ingress = pos 1

-- the moment that is written, in place of what stood there
abbrev pub poll_written : PollAt → ℤ → ℤ → ℤ
poll_written poll.Now now at = now
poll_written (poll.Time t) now at = t.micros
poll_written poll.Ingress now at = at

-- ---- packets

-- the length of a packet, or 0
abbrev pub size_of : Option (IpRepr × Segment) → ℕ
size_of None = 0
size_of (Some p) = packet_len p.0

-- a buffer with the packet at its beginning
abbrev pub written_over : Option (IpRepr × Segment) → List ℕ → List ℕ
written_over None out = out
written_over (Some p) out = with_packet p.0 p.1 out

abbrev pub has_room : Option (IpRepr × Segment) → List ℕ → Bool
has_room None out = true
has_room (Some p) out = nat_le (packet_len p.0) (length out)

-- ---- process

-- the timestamp of a reply: an acknowledgement has one where there is a value to echo and the socket has a clock
abbrev pub reply_stamp : Option Clock → Option ℕ → TcpControl → Option TcpTimestampRepr
reply_stamp (Some c) (Some echo) control.None = Some (record { tsval = c.tsval; tsecr = echo })
reply_stamp clock echo c = None

-- a reply with its timestamp and its header
abbrev pub replied : Option Clock → Option ℕ → IpRepr → Option Segment → Option (IpRepr × Segment)
replied clock echo ip None = None
replied clock echo ip (Some s) = Some (with_header ip (record s { timestamp = reply_stamp clock echo s.control }))

-- the socket and the reply after a segment
abbrev pub outcome_in : Cx → View → IpRepr → Segment → Outcome
outcome_in cx v ip s = processed v (moment_of (facts_in cx)) cx.word ip s

-- the packet that answers a segment with this timestamp, of a socket with this clock and this outcome
abbrev pub reply_by : Option Clock → Option TcpTimestampRepr → IpRepr → Outcome → Option (IpRepr × Segment)
reply_by clock came ip x = replied clock (echoed x.view came) ip (reply_numbered x.view x.reply)

-- the packet that answers it
abbrev pub reply_in : Cx → Option Clock → View → IpRepr → Segment → Option (IpRepr × Segment)
reply_in cx clock v ip s =
    reply_by (source_kept (outcome_in cx v ip s).view.stamps clock) s.timestamp ip (outcome_in cx v ip s)

-- a segment that is not for the socket changes nothing; else the socket, its clock and the reply are those of
-- `processed` at the context's clock, and the reply's packet stands at the beginning of the buffer
pub record Hears (cx : Cx) (clock : Option Clock) (v : View) (ip : IpRepr) (s : Segment) (out : List ℕ) (result : ℤ)
    (w : View) (clock' : Option Clock) (out' : List ℕ) : Type 0 where
  pub foreign : (Accepts v ip s → ⊥)
      → (result ≡ not_accepted) × (w ≡ v) × (clock' ≡ clock) × (out' ≡ out)
  pub socket : Accepts v ip s → w ≡ (outcome_in cx v ip s).view
  pub clocked : Accepts v ip s → clock' ≡ source_kept w.stamps (clock_at clock cx.tsval)
  pub answer : Accepts v ip s → result ≡ pos (size_of (reply_in cx (clock_at clock cx.tsval) v ip s))
  pub bytes : Accepts v ip s → out' ≡ written_over (reply_in cx (clock_at clock cx.tsval) v ip s) out

-- the RST that answers a segment that no socket takes
abbrev pub reset_by : TcpControl → IpRepr → Segment → Option (IpRepr × Segment)
reset_by control.Rst ip s = None
reset_by _ ip s = Some (with_header ip (rst_segment s))

abbrev pub reset_of : IpRepr → Segment → Option (IpRepr × Segment)
reset_of ip s = reset_by s.control ip s

-- ---- dispatch

-- the timestamp of a segment that goes out
abbrev pub stamp_told : Option Clock → Option ℕ
stamp_told clock = option_map (λ c. c.tsval) clock

-- some bytes that the ring lent, and the segment with them, which goes out where the buffer has room for its packet
pub record SendsInto (f : Facts) (stamp : Option ℕ) (t : Tuple) (v : View) (out : List ℕ) (result : ℤ) (w : View)
    (out' : List ℕ) : Type 0 where
  pub bytes : List ℕ
  pub lent : IsLent v.tx_buffer (offset_of v) (asked v t f) bytes
  pub answer : result ≡ (if has_room (option_map packet_in (outgoing v (content v t f stamp bytes))) out
      then pos (size_of (option_map packet_in (outgoing v (content v t f stamp bytes)))) else error_room)
  pub written : out' ≡ (if has_room (option_map packet_in (outgoing v (content v t f stamp bytes))) out
      then written_over (option_map packet_in (outgoing v (content v t f stamp bytes))) out else out)
  pub view : w ≡ left_by (content v t f stamp bytes) v (moment_of f)
      (has_room (option_map packet_in (outgoing v (content v t f stamp bytes))) out)

-- to the peer, if any
abbrev pub SendsIf : Option Tuple → Facts → Option ℕ → View → List ℕ → ℤ → View → List ℕ → Type 0
SendsIf None f stamp v out result w out' = (result ≡ pos 0) × (w ≡ v) × (out' ≡ out)
SendsIf (Some t) f stamp v out result w out' = SendsInto f stamp t v out result w out'

-- the whole of a dispatch: the beginning, and what is due after it
unfoldable pub DispatchesInto : Cx → Option Clock → View → List ℕ → ℤ → View → List ℕ → Type 0
DispatchesInto cx clock v out result w out' =
    SendsIf (peer_of (before_emit v (facts_in cx))) (facts_in cx) (stamp_told clock)
    (before_emit v (facts_in cx)).view out result w out'
