-- TCP segments by value, their payload as a list.
use Rattle.std.specs.Prelude.{ℕ, ◌+◌, ◌*◌, ◌/◌, List, [], ◌∷◌, length, Option, None, Bool, true, false, is_some}
use Rattle.std.specs.Prelude.{if◌then◌else◌, ◌==◌, ◌&&◌, count_by}
use Rattle.control_wire.specs.Seq.{seq_of}
use Rattle.control_wire.specs.declared.seq_number.TcpSeqNumber.{TcpSeqNumber}
use Rattle.control_wire.specs.declared.tcp.TcpControl.{TcpControl}
use Rattle.control_wire.specs.declared.tcp.TcpControl.TheVariants as control
use Rattle.control_wire.specs.declared.tcp.TcpRepr.{TcpRepr}
use Rattle.control_wire.specs.declared.tcp.TcpTimestampRepr.{TcpTimestampRepr}

pub record Segment : Type 0 where
  pub src_port : ℕ
  pub dst_port : ℕ
  pub control : TcpControl
  pub seq_number : TcpSeqNumber
  pub ack_number : Option TcpSeqNumber
  pub window_len : ℕ
  pub window_scale : Option ℕ
  pub max_seg_size : Option ℕ
  pub sack_permitted : Bool
  pub sack_ranges : List (Option (ℕ × ℕ))
  pub timestamp : Option TcpTimestampRepr
  pub payload : List ℕ

abbrev pub segment_of : TcpRepr → Segment
segment_of t =
    record {
      src_port = t.src_port;
      dst_port = t.dst_port;
      control = t.control;
      seq_number = t.seq_number;
      ack_number = t.ack_number;
      window_len = t.window_len;
      window_scale = t.window_scale;
      max_seg_size = t.max_seg_size;
      sack_permitted = t.sack_permitted;
      sack_ranges = t.sack_ranges;
      timestamp = t.timestamp;
      payload = t.payload.now;
    }

-- between these ports, with nothing else set
abbrev pub bare_segment : ℕ → ℕ → Segment
bare_segment src dst =
    record {
      src_port = src;
      dst_port = dst;
      control = control.None;
      seq_number = seq_of 0;
      ack_number = None;
      window_len = 0;
      window_scale = None;
      max_seg_size = None;
      sack_permitted = false;
      sack_ranges = None ∷ None ∷ None ∷ [];
      timestamp = None;
      payload = [];
    }

-- what SYN and FIN take of the sequence space
abbrev pub control_len : TcpControl → ℕ
control_len control.Syn = 1
control_len control.Fin = 1
control_len _ = 0

-- SEG.LEN: how much of the sequence space a segment takes
abbrev pub segment_len : Segment → ℕ
segment_len s = length s.payload + control_len s.control

-- control None or PSH: neither a number of the sequence space nor a reset
abbrev pub is_plain : TcpControl → Bool
is_plain control.None = true
is_plain control.Psh = true
is_plain _ = false

-- no payload, and nothing asked for
abbrev pub is_empty_segment : Segment → Bool
is_empty_segment s = (length s.payload == 0) && is_plain s.control

-- the control without PSH
abbrev pub without_psh : TcpControl → TcpControl
without_psh control.Psh = control.None
without_psh c = c

-- a SACK option has 2 octets and 8 for each range; without ranges there is none (RFC 2018, section 3)
abbrev pub sack_option_len : ℕ → ℕ
sack_option_len ranges = if ranges == 0 then 0 else 2 + 8 * ranges

-- the octets of a segment's options (RFC 9293, section 3.2; RFC 7323, sections 2.2 and 3.2; RFC 2018, sections 2 and 3)
abbrev pub options_len : Segment → ℕ
options_len s =
    (if is_some s.max_seg_size then 4 else 0) + (if is_some s.window_scale then 3 else 0)
    + (if s.sack_permitted then 2 else 0) + (if is_some s.timestamp then 10 else 0)
    + sack_option_len (count_by is_some s.sack_ranges)

-- a header takes 20 octets and its options, up to a multiple of 4
abbrev pub segment_header_len : Segment → ℕ
segment_header_len s = (20 + options_len s + 3) / 4 * 4
