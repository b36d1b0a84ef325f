-- The segments that answer others.
use Rattle.std.specs.Prelude.{ℕ, ◌≡◌, ⊤, [], ◌∷◌, ◌+◌, List, length, slice_get, Option, Some, None, option_map}
use Rattle.std.specs.Prelude.{Bool, false, ◌==◌, ◌||◌, if◌then◌else◌}
use Rattle.ip_wire.specs.IpHeader.{ip_header, src_addr_of, dst_addr_of}
use Rattle.ip_wire.specs.declared.protocol.IpProtocol.TheVariants as protocol
use Rattle.ip_wire.specs.declared.repr.IpRepr.{IpRepr}
use Rattle.control_wire.specs.Segment.{Segment, bare_segment, segment_header_len, segment_len}
use Rattle.control_wire.specs.Seq.{seq_of, seq_add, seq_sub}
use Rattle.control_wire.specs.declared.seq_number.TcpSeqNumber.{TcpSeqNumber}
use Rattle.control_wire.specs.declared.tcp.TcpControl.{TcpControl}
use Rattle.control_wire.specs.declared.tcp.TcpControl.TheVariants as control
use Rattle.control_wire.specs.declared.tcp.TcpTimestampRepr.{TcpTimestampRepr}
use Rattle.sock_tcp.specs.Content.{window_field}
pub use Rattle.sock_tcp.specs.Sack.{chosen_range, first_of, is_same, second_range, third_range, told_by, told_of}
pub use Rattle.sock_tcp.specs.Sack.{wire_edges}
unfoldable pub use Rattle.sock_tcp.specs.Sack.{sack_ranges}
use Rattle.sock_tcp.specs.View.{View}
use Rattle.sock_tcp.specs.declared.rules.Rules.{Rules}
use Rattle.sock_tcp.specs.declared.rules.Rules.TheVariants as rules
use Rattle.sock_tcp.specs.Window.{next_ack}

-- the header of a reply: the addresses the other way round, and as many octets as the reply takes
abbrev pub reply_ip : IpRepr → Segment → IpRepr
reply_ip ip s = ip_header (dst_addr_of ip) (src_addr_of ip) protocol.Tcp (segment_header_len s + length s.payload) 64

-- nothing but the ports, the other way round
abbrev pub bare_reply : Segment → Segment
bare_reply s = bare_segment s.dst_port s.src_port

-- the number of an RST: what the segment acknowledges, or 0
abbrev pub rst_number : Option TcpSeqNumber → TcpSeqNumber
rst_number None = seq_of 0
rst_number (Some ack) = ack

-- what an RST acknowledges: a SYN that acknowledges nothing
abbrev pub rst_ack : TcpControl → Option TcpSeqNumber → Segment → Option TcpSeqNumber
rst_ack control.Syn None s = Some (seq_add s.seq_number (segment_len s))
rst_ack c ack s = None

-- the RST that answers a segment
abbrev pub rst_segment : Segment → Segment
rst_segment s =
    record (bare_reply s) {
      control = control.Rst;
      seq_number = rst_number s.ack_number;
      ack_number = rst_ack s.control s.ack_number s;
    }

abbrev pub with_header : IpRepr → Segment → IpRepr × Segment
with_header ip s = (reply_ip ip s, s)

-- ---- an acknowledgement

unfoldable pub ack_segment : View → Segment → Segment
ack_segment v s =
    record (bare_reply s) {
      seq_number = v.remote_last_seq;
      ack_number = Some (next_ack v);
      window_len = window_field v;
      sack_ranges = sack_ranges v;
    }

-- its acknowledgement and window are the last sent
unfoldable pub ack_kept : View → View
ack_kept v = record v { remote_last_ack = Some (next_ack v); remote_last_win = window_field v }

-- ---- the reply as it goes out

abbrev pub value_of : Option TcpTimestampRepr → Option ℕ
value_of None = None
value_of (Some t) = Some t.tsval

-- what a timestamp echoes: by smoltcp's rules the value that came; by the RFCs', TS.Recent (RFC 7323, section 4.3)
abbrev pub echoed_by : Rules → ℕ → Option TcpTimestampRepr → Option ℕ
echoed_by rules.Smoltcp recent came = value_of came
echoed_by rules.Rfc recent came = Some recent

-- of a socket w that a segment with this timestamp left
abbrev pub echoed : View → Option TcpTimestampRepr → Option ℕ
echoed w came = echoed_by w.rules w.last_remote_tsval came

-- an acknowledgement has a timestamp where there is a value to echo and the socket has a clock: the clock's value, and
-- that one. An RST has none
abbrev pub IsReplyStamp : {G : Type 0} → (G → ℕ → Type 0) → Option G → Option ℕ
    → TcpControl → Option TcpTimestampRepr → Type 0
IsReplyStamp tells (Some g) (Some echo) control.None (Some t) = tells g t.tsval × (t.tsecr ≡ echo)
IsReplyStamp tells (Some g) (Some echo) control.None None = ⊥
IsReplyStamp tells g echo c stamp = stamp ≡ None

-- with its header, and with a timestamp or none
pub record IsSentAs (stamped : TcpControl → Option TcpTimestampRepr → Type 0) (ip : IpRepr) (s : Segment)
    (out : IpRepr × Segment) : Type 0 where
  pub stamp : Option TcpTimestampRepr
  pub is_stamp : stamped s.control stamp
  pub is : out ≡ with_header ip (record s { timestamp = stamp })

abbrev pub Answers : (TcpControl → Option TcpTimestampRepr → Type 0) → IpRepr
    → Option Segment → Option (IpRepr × Segment) → Type 0
Answers stamped ip None None = ⊤
Answers stamped ip (Some s) (Some out) = IsSentAs stamped ip s out
Answers stamped ip _ _ = ⊥
