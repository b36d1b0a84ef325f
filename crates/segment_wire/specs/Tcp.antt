-- TCP segments as octets, written and read (RFC 9293, section 3.1).
use Rattle.std.specs.Prelude.{ℕ, ◌+◌, ◌-◌, ◌*◌, ◌/◌, ◌%◌, ◌==◌, ◌&&◌, ◌||◌, nat_le, not, Bool, true, false, length}
use Rattle.std.specs.Prelude.{if◌then◌else◌, List, ◌∷◌, ◌++◌, take, drop, slice_index, Option, Some, None}
use Rattle.std.specs.Prelude.{Result, Ok, Err}
use Rattle.ip_wire.specs.Octets.{be16, be16_at, be32, be32_at}
use Rattle.ip_wire.specs.Sum.{complement, pseudo_sum, sum_after}
use Rattle.ip_wire.specs.declared.address.IpAddress.{IpAddress}
use Rattle.ip_wire.specs.declared.malformed.Error.{Error}
use Rattle.control_wire.specs.Segment.{Segment, segment_header_len}
use Rattle.control_wire.specs.Seq.{seq_of}
use Rattle.control_wire.specs.Source.{at_most_one, sum_holds, tcp_header_len}
use Rattle.control_wire.specs.declared.seq_number.TcpSeqNumber.{TcpSeqNumber}
use Rattle.control_wire.specs.declared.tcp.TcpControl.{TcpControl}
use Rattle.control_wire.specs.declared.tcp.TcpControl.TheVariants as control
use Rattle.segment_wire.specs.Options.{no_options, options_octets, options_read}
use Rattle.segment_wire.specs.declared.options.TcpOptions.{TcpOptions}

-- FIN, SYN, RST and PSH are the four low bits
abbrev pub control_bits : TcpControl → ℕ
control_bits control.None = 0
control_bits control.Fin = 1
control_bits control.Syn = 2
control_bits control.Rst = 4
control_bits control.Psh = 8

-- ACK is the bit above them
abbrev pub ack_bit : Option TcpSeqNumber → ℕ
ack_bit None = 0
ack_bit (Some n) = 16

-- without an acknowledgement its field is 0
abbrev pub ack_field : Option TcpSeqNumber → ℕ
ack_field None = 0
ack_field (Some n) = n.0

-- Ports, sequence number, acknowledgement, data offset and flags, window, checksum, urgent pointer.
abbrev pub tcp_header : Segment → ℕ → List ℕ
tcp_header s checksum =
    be16 s.src_port ++ (be16 s.dst_port ++ (be32 s.seq_number.0 ++ (be32 (ack_field s.ack_number)
    ++ ((segment_header_len s / 4 * 16) ∷ (control_bits s.control + ack_bit s.ack_number) ∷ (be16 s.window_len
    ++ (be16 checksum ++ be16 0))))))

-- a segment with this checksum
unfoldable pub tcp_with : Segment → ℕ → List ℕ
tcp_with s checksum = tcp_header s checksum ++ (options_octets s ++ s.payload)

-- the checksum over the pseudo header and a segment
abbrev pub tcp_checksum : IpAddress → IpAddress → List ℕ → ℕ
tcp_checksum src dst octets = complement (sum_after (pseudo_sum src dst 6 (length octets)) octets)

-- where the checksum is not sent it is 0
abbrev pub tcp_octets : Bool → IpAddress → IpAddress → Segment → List ℕ
tcp_octets sent src dst s = tcp_with s (if sent then tcp_checksum src dst (tcp_with s 0) else 0)

-- PSH beside FIN, SYN or RST says nothing more; of those there is one at most (`is_head`)
abbrev pub control_of : ℕ → TcpControl
control_of flags =
    if flags % 8 == 1 then control.Fin
    else (if flags % 8 == 2 then control.Syn
    else (if flags % 8 == 4 then control.Rst
    else (if flags / 8 % 2 == 1 then control.Psh else control.None)))

abbrev pub ack_of : ℕ → ℕ → Option TcpSeqNumber
ack_of flags number = if flags / 16 % 2 == 1 then Some (seq_of number) else None

-- the header has 20 octets at least and fits, both ports are there, and one of FIN, SYN and RST is set at most
unfoldable pub is_head : List ℕ → Bool
is_head octets =
    nat_le 20 (tcp_header_len octets) && nat_le (tcp_header_len octets) (length octets)
    && not (be16_at octets 0 == 0) && not (be16_at octets 2 == 0) && at_most_one (slice_index octets 13 % 8)

-- the octets of the options
abbrev pub options_of : List ℕ → List ℕ
options_of octets = take (tcp_header_len octets - 20) (drop 20 octets)

-- what stands in a segment, with its options
abbrev pub segment_at : List ℕ → TcpOptions → Segment
segment_at octets o =
    record {
      src_port = be16_at octets 0;
      dst_port = be16_at octets 2;
      control = control_of (slice_index octets 13);
      seq_number = seq_of (be32_at octets 4);
      ack_number = ack_of (slice_index octets 13) (be32_at octets 8);
      window_len = be16_at octets 14;
      window_scale = o.window_scale;
      max_seg_size = o.max_seg_size;
      sack_permitted = o.sack_permitted;
      sack_ranges = o.sack_ranges;
      timestamp = o.timestamp;
      payload = drop (tcp_header_len octets) octets;
    }

-- a segment with these options in place of its own
abbrev pub with_options : Segment → TcpOptions → Segment
with_options s o =
    record s {
      window_scale = o.window_scale;
      max_seg_size = o.max_seg_size;
      sack_permitted = o.sack_permitted;
      sack_ranges = o.sack_ranges;
      timestamp = o.timestamp;
    }

abbrev pub segment_if : List ℕ → Option TcpOptions → Option Segment
segment_if octets None = None
segment_if octets (Some o) = Some (segment_at octets o)

-- a header that fits, a checksum that verifies where it is tested, and options that are whole
abbrev pub tcp_parsed : Bool → IpAddress → IpAddress → List ℕ → Option Segment
tcp_parsed tested src dst octets =
    if is_head octets && (not tested || sum_holds src dst 6 octets)
    then segment_if octets (options_read 0 no_options (options_of octets))
    else None

-- a result by value
abbrev pub read_as : {R V : Type 0} → (R → V) → Result R Error → Option V
read_as view (Ok found) = Some (view found)
read_as view (Err e) = None

-- a segment or datagram that was read into a place, where there is one
abbrev pub filled : {A : Type 0} → Bool → A → Option A
filled true s = Some s
filled false s = None
