-- What a dispatch emits.
use Rattle.std.specs.Prelude.{ℕ, ◌+◌, ◌-◌, List, [], ◌∷◌, length, max, min, nat_lt, Option, Some, None, Bool, true, not}
use Rattle.std.specs.Prelude.{◌&&◌, ◌==◌, if◌then◌else◌, option_map}
use Rattle.ip_wire.specs.IpHeader.{ip_header}
use Rattle.ip_wire.specs.declared.protocol.IpProtocol.TheVariants as protocol
use Rattle.ip_wire.specs.declared.repr.IpRepr.{IpRepr}
use Rattle.net_base.specs.declared.time.Instant.{Instant}
use Rattle.control_wire.specs.Segment.{Segment, bare_segment, segment_header_len, is_empty_segment}
use Rattle.control_wire.specs.Seq.{seq_minus, seq_sub}
use Rattle.control_wire.specs.declared.seq_number.TcpSeqNumber.{TcpSeqNumber}
use Rattle.control_wire.specs.declared.tcp.TcpControl.{TcpControl}
use Rattle.control_wire.specs.declared.tcp.TcpControl.TheVariants as control
use Rattle.control_wire.specs.declared.tcp.TcpTimestampRepr.{TcpTimestampRepr}
use Rattle.sock_core.specs.Facts.{Facts}
use Rattle.sock_tcp.specs.Due.{is_closing, own_mss, ranges_or, effective_mss, flight, congestion_left}
use Rattle.sock_tcp.specs.Rfc.OwnWindow.{kept_field}
use Rattle.sock_tcp.specs.Rfc.Scoreboard.{hole_behind, hole_number, hole_size, hole_start}
use Rattle.sock_tcp.specs.Timers.{is_keep_alive_over, is_probe_over}
use Rattle.sock_tcp.specs.View.{View, moment_of}
use Rattle.sock_tcp.specs.Window.{next_ack}
use Rattle.sock_tcp.specs.declared.emission.Kind.{Kind}
use Rattle.sock_tcp.specs.declared.emission.Kind.TheVariants as kind
use Rattle.sock_tcp.specs.declared.recovery.Recovery.{Recovery}
use Rattle.sock_tcp.specs.declared.recovery.Recovery.TheVariants as recovery
use Rattle.sock_tcp.specs.declared.rules.Rules.{Rules}
use Rattle.sock_tcp.specs.declared.rules.Rules.TheVariants as rules
use Rattle.sock_tcp.specs.declared.scoreboard.Hole.{Hole}
use Rattle.sock_tcp.specs.declared.scoreboard.Scoreboard.{Scoreboard}
use Rattle.sock_tcp.specs.declared.state.State.{State}
use Rattle.sock_tcp.specs.declared.state.State.TheVariants as state
use Rattle.sock_tcp.specs.declared.tuple.Tuple.{Tuple}
pub use Rattle.sock_tcp.specs.Due.{window_field}
pub use Rattle.sock_tcp.specs.Rfc.Pipe.{again_from, hole_from}

-- ---- the payload

abbrev pub carries_data : State → Bool
carries_data state.Established = true
carries_data state.CloseWait = true
carries_data st = is_closing st

-- what the peer's window leaves behind SND.NXT
abbrev pub window_left : View → ℕ
window_left v = v.remote_win_len - flight v

-- a byte goes into a window that leaves nothing (RFC 9293, section 3.8.6.1)
abbrev pub is_probing : View → Instant → Bool
is_probing v now =
    carries_data v.state && not v.pending_fast_retransmit && (window_left v == 0) && is_probe_over v.timer now

-- the next hole to be sent again (RFC 6675, section 4, NextSeg), or the segment that is sent again as a probe (RFC
-- 8985, section 7.3)
abbrev pub next_hole : Recovery → Scoreboard → TcpSeqNumber → Option Hole
next_hole (recovery.Fast point high_rxt resent_at acked trailed una_lost) k una =
    hole_behind k (hole_from una_lost high_rxt una)
next_hole (recovery.Probe start end again) k una = Some (record { start = seq_sub start una; end = seq_sub end una })
next_hole r k una = None

-- where it begins within the peer's window (RFC 9293, section 3.8.6)
abbrev pub hole_within : Option Hole → ℕ → Option Hole
hole_within None window = None
hole_within (Some h) window = if nat_lt h.start window then Some h else None

abbrev pub hole_by : Rules → Recovery → Scoreboard → TcpSeqNumber → ℕ → Option Hole
hole_by rules.Smoltcp r k una window = None
hole_by rules.Rfc r k una window = hole_within (next_hole r k una) window

-- what a fast retransmission sends again; where there is none, the segment at SND.UNA
abbrev pub hole_of : View → Option Hole
hole_of v = hole_by v.rules v.recovery v.sacked v.local_seq_no v.remote_win_len

-- of n bytes that begin at start, what goes out again: by smoltcp's rules all; by the RFCs' what the peer's window
-- takes, and one byte where it takes none (RFC 9293, section 3.8.6)
abbrev pub resent_within : Rules → ℕ → ℕ → ℕ → ℕ
resent_within rules.Smoltcp window start n = n
resent_within rules.Rfc window start n = min n (max 1 (window - start))

-- how many bytes a fast retransmission sends again, with segments of mss bytes
abbrev pub resent_size : View → ℕ → ℕ
resent_size v mss =
    resent_within v.rules v.remote_win_len (hole_start (hole_of v) (length v.tx_buffer.bytes))
    (hole_size (hole_of v) (length v.tx_buffer.bytes) mss)

-- a fast retransmission keeps to the hole and, by the RFCs' rules, to the peer's window, a probe is one byte, and other
-- data keeps to both windows
abbrev pub size_of : View → Tuple → Facts → ℕ
size_of v t f =
    if v.pending_fast_retransmit then resent_size v (effective_mss v t f)
    else (if is_probing v (moment_of f) then min 1 (effective_mss v t f)
    else min (min (window_left v) (effective_mss v t f)) (congestion_left v))

-- where in the transmit queue the payload begins: at the hole or SND.UNA in a fast retransmission, else at SND.NXT
abbrev pub offset_of : View → ℕ
offset_of v =
    if v.pending_fast_retransmit then hole_start (hole_of v) (length v.tx_buffer.bytes) else flight v

-- its number
abbrev pub number_of : View → TcpSeqNumber
number_of v =
    if v.pending_fast_retransmit then hole_number (hole_of v) (length v.tx_buffer.bytes) v.local_seq_no
    else v.remote_last_seq

-- how much of the transmit queue, from there on, is asked of the ring
unfoldable pub asked : View → Tuple → Facts → ℕ
asked v t f = if carries_data v.state then size_of v t f else 0

-- ---- the segment, with the payload that the ring lent

-- the own clock's value, and the last one that the peer sent (RFC 7323, section 3.2)
abbrev pub timestamp_of : Option ℕ → ℕ → Option TcpTimestampRepr
timestamp_of None last = None
timestamp_of (Some tsval) last = Some (record { tsval = tsval; tsecr = last })

unfoldable pub plain_segment : View → Tuple → Option ℕ → Segment
plain_segment v t stamp =
    record (bare_segment t.local.port t.remote.port) {
      seq_number = v.remote_last_seq;
      ack_number = Some (next_ack v);
      window_len = window_field v;
      timestamp = timestamp_of stamp v.last_remote_tsval;
    }

-- a SYN stands at SND.UNA, and its window is not shifted
abbrev pub with_syn : View → Tuple → Facts → Segment → Segment
with_syn v t f s =
    record s {
      control = control.Syn;
      seq_number = v.local_seq_no;
      window_len = min (length v.rx_buffer.held) 65535;
      max_seg_size = Some (own_mss f t);
    }

-- the own scale is told only where the peer told its own
abbrev pub scale_back : Option ℕ → ℕ → Option ℕ
scale_back None shift = None
scale_back (Some n) shift = Some shift

-- FIN behind the end of the queue, where the socket was closed; PSH where the payload ends the queue
abbrev pub data_control : View → ℕ → TcpControl
data_control v n =
    if offset_of v + n == length v.tx_buffer.bytes
    then (if is_closing v.state then control.Fin else (if n == 0 then control.None else control.Psh))
    else control.None

abbrev pub with_data : View → List ℕ → Segment → Segment
with_data v bytes s =
    record s {
      seq_number = number_of v;
      control = data_control v (length bytes);
      payload = bytes;
    }

-- what is held beside it, where it tells that
abbrev pub with_ranges : View → Tuple → Facts → Segment → Segment
with_ranges v t f s = record s { sack_ranges = ranges_or v t f s.sack_ranges }

abbrev pub syn : View → Tuple → Facts → Segment → Segment
syn v t f s =
    record (with_syn v t f s) { ack_number = None; window_scale = Some v.remote_win_shift; sack_permitted = true }

abbrev pub syn_ack : View → Tuple → Facts → Segment → Segment
syn_ack v t f s =
    record (with_syn v t f s) {
      window_scale = scale_back v.remote_win_scale v.remote_win_shift;
      sack_permitted = v.remote_has_sack;
    }

-- by state
abbrev pub filled : State → View → Tuple → Facts → List ℕ → Segment → Option Segment
filled state.Closed v t f bytes s = Some (record s { control = control.Rst })
filled state.Listen v t f bytes s = None
filled state.SynSent v t f bytes s = Some (syn v t f s)
filled state.SynReceived v t f bytes s = Some (syn_ack v t f s)
filled state.FinWait2 v t f bytes s = Some (with_ranges v t f s)
filled state.TimeWait v t f bytes s = Some s
filled _ v t f bytes s = Some (with_ranges v t f (with_data v bytes s))

-- ---- probes and keep-alives

abbrev pub emission_kind : View → Instant → Segment → Kind
emission_kind v now s =
    if is_probing v now then kind.Probe
    else (if is_keep_alive_over v.timer now && is_empty_segment s then kind.KeepAlive else kind.Plain)

-- the window of a keep-alive does not count as told: by the RFCs' rules it ends where the one does that was told last,
-- so that no later segment tells less (RFC 9293, section 3.8.6)
abbrev pub aside_field : Rules → View → ℕ → ℕ
aside_field rules.Smoltcp v field = field
aside_field rules.Rfc v field = kept_field v

-- a keep-alive is one zero byte before SND.UNA (RFC 1122, section 4.2.3.6)
abbrev pub of_kind : Kind → View → Segment → Segment
of_kind kind.KeepAlive v s =
    record s {
      seq_number = seq_minus v.local_seq_no 1;
      window_len = aside_field v.rules v s.window_len;
      payload = 0 ∷ [];
    }
of_kind _ v s = s

-- ---- the whole

-- 64, where the user sets none
abbrev pub hop_limit_of : Option ℕ → ℕ
hop_limit_of None = 64
hop_limit_of (Some n) = n

-- what goes out
pub record Sending : Type 0 where
  pub ip : IpRepr
  pub segment : Segment
  pub kind : Kind

abbrev pub ip_of : View → Tuple → Segment → IpRepr
ip_of v t s =
    ip_header t.local.addr t.remote.addr protocol.Tcp (segment_header_len s + length s.payload)
    (hop_limit_of v.hop_limit)

-- the segment with its header
abbrev pub sending : View → Tuple → Kind → Segment → Sending
sending v t k s = record { ip = ip_of v t s; segment = s; kind = k }

abbrev pub sent_as : View → Tuple → Kind → Segment → Sending
sent_as v t k s = sending v t k (of_kind k v s)

-- out of the plain segment
abbrev pub finished : View → Tuple → Facts → List ℕ → Segment → Option Sending
finished v t f bytes plain =
    option_map (λ s. sent_as v t (emission_kind v (moment_of f) s) s) (filled v.state v t f bytes plain)

unfoldable pub content : View → Tuple → Facts → Option ℕ → List ℕ → Option Sending
content v t f stamp bytes = finished v t f bytes (plain_segment v t stamp)
