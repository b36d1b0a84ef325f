-- What came twice, and which block tells it (RFC 2883, section 4), by the RFCs' rules.
use Rattle.std.specs.Prelude.{ℕ, List, [], ◌∷◌, ◌-◌, min, nat_le, slice_index_or, Option, Some, None, option_map}
use Rattle.std.specs.Prelude.{length, Bool, true, false, ◌==◌, ◌&&◌, if◌then◌else◌}
use Rattle.control_wire.specs.Segment.{Segment}
use Rattle.control_wire.specs.Seq.{seq_add, seq_sub}
use Rattle.control_wire.specs.declared.seq_number.TcpSeqNumber.{TcpSeqNumber}
use Rattle.control_wire.specs.declared.tcp.TcpControl.{TcpControl}
use Rattle.control_wire.specs.declared.tcp.TcpControl.TheVariants as control
use Rattle.net_base.specs.Ranges.{edges}
use Rattle.sock_core.specs.Received.{ranges_of, range_around, room_of}
use Rattle.sock_core.specs.Streams.{fin_length}
use Rattle.sock_tcp.specs.Rfc.Windows.{is_heeding}
use Rattle.sock_tcp.specs.View.{View}
use Rattle.sock_tcp.specs.Window.{next_ack}
use Rattle.sock_tcp.specs.declared.rules.Rules.{Rules}
use Rattle.sock_tcp.specs.declared.rules.Rules.TheVariants as rules

-- ---- how many of a segment's first bytes came before

-- of bytes that begin d behind RCV.NXT: up to the end of the range that holds the first
abbrev pub up_to_end : Option (ℕ × ℕ) → ℕ → ℕ
up_to_end None d = 0
up_to_end (Some r) d = r.1 - d

-- of bytes that begin so far before RCV.NXT, a receive buffer at most: up to RCV.NXT, without the FIN that it counts
abbrev pub came_from : View → TcpSeqNumber → ℕ → ℕ
came_from v number back =
    if nat_le back (room_of v.rx_buffer)
    then back - fin_length v.rx_fin_received
    else up_to_end (range_around (edges (ranges_of v.rx_buffer.held)) (seq_sub number (next_ack v)))
    (seq_sub number (next_ack v))

-- neither an RST nor a SYN
abbrev pub is_plain_control : TcpControl → Bool
is_plain_control control.Rst = false
is_plain_control control.Syn = false
is_plain_control _ = true

-- of a payload of n bytes, once the own SYN is acknowledged, and where a peer permits SACK
abbrev pub came_before : View → TcpControl → TcpSeqNumber → ℕ → ℕ
came_before v c number n =
    if v.remote_has_sack && (is_heeding v.state && is_plain_control c)
    then min n (came_from v number (seq_sub (next_ack v) number))
    else 0

-- ---- the block that tells it

abbrev pub duplicate_block : ℕ → Segment → ℕ × ℕ
duplicate_block n s = ((seq_add s.seq_number 0).0, (seq_add s.seq_number n).0)

-- it is the first, where there is one, and two stay behind it; an RST tells nothing
abbrev pub blocks_behind : TcpControl → ℕ → ℕ × ℕ → List (Option (ℕ × ℕ)) → List (Option (ℕ × ℕ))
blocks_behind control.Rst n r rs = rs
blocks_behind c n r rs = if n == 0 then rs else Some r ∷ slice_index_or rs 0 None ∷ slice_index_or rs 1 None ∷ []

-- the reply x to the segment s, of which n bytes came before
abbrev pub with_duplicate : ℕ → Segment → Segment → Segment
with_duplicate n s x =
    record x { sack_ranges = blocks_behind x.control n (duplicate_block n s) x.sack_ranges }

-- of a socket that was v before the segment
abbrev pub duplicate_told : Rules → View → Segment → Option Segment → Option Segment
duplicate_told rules.Smoltcp v s x = x
duplicate_told rules.Rfc v s x =
    option_map (with_duplicate (came_before v s.control s.seq_number (length s.payload)) s) x
