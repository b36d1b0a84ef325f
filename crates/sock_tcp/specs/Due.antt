-- Whether a dispatch has anything to send.
use Rattle.std.specs.Prelude.{count_by, is_some, List, [], ◌∷◌}
use Rattle.std.specs.Prelude.{ℕ, ◌+◌, ◌-◌, ◌*◌, ◌/◌, ◌^◌, nat_lt, nat_le, length, max, min, Option, Some, None, Bool}
use Rattle.std.specs.Prelude.{true}
use Rattle.std.specs.Prelude.{false, not, ◌==◌, ◌&&◌, ◌||◌, if◌then◌else◌}
use Rattle.ip_wire.specs.declared.address.IpAddress.{IpAddress}
use Rattle.ip_wire.specs.declared.address.IpAddress.TheVariants as address
use Rattle.control_wire.specs.Segment.{sack_option_len}
use Rattle.control_wire.specs.Seq.{seq_add, seq_sub, seq_eq}
use Rattle.control_wire.specs.declared.seq_number.TcpSeqNumber.{TcpSeqNumber}
use Rattle.sock_core.specs.Congestion.{congestion_window, recovery_window}
use Rattle.sock_core.specs.Facts.{Facts}
use Rattle.sock_core.specs.Seq.{is_before}
use Rattle.sock_core.specs.declared.context.PollAt.{PollAt}
use Rattle.sock_core.specs.declared.context.PollAt.TheVariants as poll
use Rattle.sock_tcp.specs.Polls.{is_reached, delay_poll}
use Rattle.sock_tcp.specs.Rfc.OwnWindow.{field_by, may_grow, space_field}
use Rattle.sock_tcp.specs.Rfc.Pipe.{counts, room, told_late}
use Rattle.sock_tcp.specs.Rfc.SmallSegments.{held_by, is_cut_by, small_poll, waits_alone}
use Rattle.sock_tcp.specs.Sack.{sack_ranges, tells_by}
use Rattle.sock_tcp.specs.Timers.{is_keep_alive_over, is_probe_over}
use Rattle.sock_tcp.specs.View.{View, moment_of}
use Rattle.sock_tcp.specs.Window.{next_ack}
use Rattle.sock_tcp.specs.declared.recovery.Recovery.{Recovery}
use Rattle.sock_tcp.specs.declared.recovery.Recovery.TheVariants as recovery
use Rattle.sock_tcp.specs.declared.rules.Rules.{Rules}
use Rattle.sock_tcp.specs.declared.rules.Rules.TheVariants as rules
use Rattle.sock_tcp.specs.declared.state.State.{State}
use Rattle.sock_tcp.specs.declared.state.State.TheVariants as state
use Rattle.sock_tcp.specs.declared.tuple.Tuple.{Tuple}

-- ---- states

abbrev pub is_opening : State → Bool
is_opening state.SynSent = true
is_opening state.SynReceived = true
is_opening _ = false

-- a FIN is to be sent, or was sent and is not acknowledged
abbrev pub is_closing : State → Bool
is_closing state.FinWait1 = true
is_closing state.Closing = true
is_closing state.LastAck = true
is_closing _ = false

abbrev pub is_closed : State → Bool
is_closed state.Closed = true
is_closed _ = false

-- the peer is told of a larger window
abbrev pub tells_window : State → Bool
tells_window state.SynSent = true
tells_window state.SynReceived = true
tells_window state.Established = true
tells_window state.FinWait1 = true
tells_window state.FinWait2 = true
tells_window _ = false

-- ---- sizes

abbrev pub ip_header_len : IpAddress → ℕ
ip_header_len (address.Ipv4 a) = 20
ip_header_len (address.Ipv6 a) = 40

-- the largest packet between addresses of this version: over IPv6 less than 576 counts as that
abbrev pub mtu_for : IpAddress → ℕ → ℕ
mtu_for (address.Ipv4 a) n = n
mtu_for (address.Ipv6 a) n = max n 576

-- the MSS that this side may receive
abbrev pub own_mss : Facts → Tuple → ℕ
own_mss f t = mtu_for t.local.addr f.mtu - ip_header_len t.local.addr - 20

-- a timestamp option takes 12 octets of each segment
abbrev pub timestamp_room : Bool → ℕ
timestamp_room stamps = if stamps then 12 else 0

-- and one that tells n ranges beside it more
abbrev pub ranges_room : Bool → ℕ → ℕ
ranges_room stamps n = ((if stamps then 10 else 0) + sack_option_len n + 3) / 4 * 4

-- whether a segment that is no reply tells what is held: with an own MSS that leaves room for data
abbrev pub tells_within : View → ℕ → Bool
tells_within v own = tells_by v.rules v.remote_has_sack v.rx_buffer.held && nat_lt 36 own

abbrev pub tells_ranges : View → Tuple → Facts → Bool
tells_ranges v t f = tells_within v (own_mss f t)

abbrev pub ranges_or : View → Tuple → Facts → List (Option (ℕ × ℕ)) → List (Option (ℕ × ℕ))
ranges_or v t f none = if tells_ranges v t f then sack_ranges v else none

-- what it tells
abbrev pub sent_ranges : View → Tuple → Facts → List (Option (ℕ × ℕ))
sent_ranges v t f = ranges_or v t f (None ∷ None ∷ None ∷ [])

-- how many octets the options of a segment with data take
abbrev pub room_within : View → ℕ → ℕ
room_within v own =
    if tells_within v own then ranges_room v.stamps (count_by is_some (sack_ranges v)) else timestamp_room v.stamps

abbrev pub options_room : View → Tuple → Facts → ℕ
options_room v t f = room_within v (own_mss f t)

-- how many bytes a segment carries: the MSS is of a segment without options (RFC 6691, section 2)
abbrev pub mss_within : View → ℕ → ℕ
mss_within v own = min own v.remote_mss - room_within v own

abbrev pub effective_mss : View → Tuple → Facts → ℕ
effective_mss v t f = mss_within v (own_mss f t)

-- how much was sent and is not acknowledged
abbrev pub flight : View → ℕ
flight v = seq_sub v.remote_last_seq v.local_seq_no

-- what the first two duplicates let out beyond the congestion window, a segment each (RFC 3042), or what was told while
-- a loss is waited for, or a tail-loss probe of new bytes (RFC 8985, section 7.3)
abbrev pub limited_by : Rules → Recovery → ℕ → ℕ → ℕ → ℕ
limited_by rules.Rfc recovery.Open duplicates mss told = max (min duplicates 2 * mss) told
limited_by rules.Rfc (recovery.Probe start end again) duplicates mss told =
    if again then max (min duplicates 2 * mss) told else mss
limited_by _ r duplicates mss told = 0

abbrev pub limited : View → ℕ
limited v = limited_by v.rules v.recovery v.local_rx_dup_acks v.remote_mss (told_late v.reordering v.sacked)

-- a recovery that counts what is in the network
abbrev pub is_counted : View → Bool
is_counted v = counts v.rules v.recovery v.remote_has_sack

abbrev pub recovery_left : View → ℕ
recovery_left v =
    room v.recovery v.sacked v.local_seq_no (flight v) (recovery_window v.congestion_controller) v.remote_mss

-- what the congestion window leaves; in a recovery that counts what is in the network, beside that
abbrev pub congestion_left : View → ℕ
congestion_left v =
    if is_counted v then recovery_left v
    else congestion_window v.congestion_controller - (flight v - limited v)

-- what of the transmit queue both windows let go out behind SND.NXT
abbrev pub sendable : View → ℕ
sendable v = min (min v.remote_win_len (length v.tx_buffer.bytes) - flight v) (congestion_left v)

-- ---- what was in flight

-- what was in flight when a loss is told: by the RFCs' rules as much as both windows let out of what is queued, since a
-- host may hear many segments before it lets the socket speak, and without what the first two duplicates let out beyond
-- the congestion window (RFC 5681, section 3.2, step 2)
abbrev pub flight_lost : Rules → ℕ → ℕ → ℕ → ℕ
flight_lost rules.Smoltcp flight usable window = flight
flight_lost rules.Rfc flight usable window = min (max flight usable) window

-- what the peer's window lets out of what is queued
abbrev pub usable : View → ℕ
usable v = min v.remote_win_len (length v.tx_buffer.bytes)

-- ---- data, a SYN or a FIN

-- Nagle: while bytes are in flight, less than a full segment waits; nothing waits behind a close
abbrev pub waits_by_nagle : View → ℕ → Bool
waits_by_nagle v mss = v.nagle && not (flight v == 0) && nat_lt (sendable v) mss && not (is_closing v.state)

-- and by the RFCs' rules what the peer's window makes small, for a while also with nothing in flight
abbrev pub may_wait : View → Bool
may_wait v = waits_alone v.rules v.recovery v.idle_at v.remote_win_len v.largest_window

abbrev pub is_held_back : View → ℕ → Bool
is_held_back v mss =
    waits_by_nagle v mss
    || is_cut_by v.rules (may_wait v) (flight v) v.remote_win_len (length v.tx_buffer.bytes) (congestion_left v) mss

-- a SYN or a FIN
abbrev pub control_due : View → Bool
control_due v =
    (is_opening v.state && (flight v == 0))
    || (is_closing v.state && seq_eq v.remote_last_seq (seq_add v.local_seq_no (length v.tx_buffer.bytes)))

-- a fast retransmission, data, a SYN or a FIN, with segments of up to so many bytes
abbrev pub data_due_by : View → ℕ → Bool
data_due_by v mss =
    (v.pending_fast_retransmit && not (length v.tx_buffer.bytes == 0))
    || (not (sendable v == 0) && not (is_held_back v mss))
    || control_due v

unfoldable pub data_due : View → Tuple → Facts → Bool
data_due v t f = data_due_by v (effective_mss v t f)

-- ---- an acknowledgement

abbrev pub is_ack_after : Option TcpSeqNumber → TcpSeqNumber → Bool
is_ack_after None next = false
is_ack_after (Some ack) next = is_before ack next

-- some acknowledgement was sent, or kept by a SYN, and it is before the next one
unfoldable pub ack_due : View → Bool
ack_due v = is_ack_after v.remote_last_ack (next_ack v)

-- from when on it goes out
abbrev pub ack_poll : View → PollAt
ack_poll v = if ack_due v then delay_poll v.ack_delay_timer else poll.Ingress

-- and from when on, beside that, what waits though nothing is in flight
abbrev pub held_poll : View → PollAt
held_poll v = held_by v.rules (ack_poll v) (small_poll ((flight v == 0) && not (sendable v == 0)) v.idle_at)

-- ---- a larger window

-- the window field of every segment but a SYN
abbrev pub window_field : View → ℕ
window_field v = field_by v.rules v

-- the window field that would tell what is left of the window sent last, up to this edge
abbrev pub field_left : View → TcpSeqNumber → ℕ
field_left v edge =
    if is_before edge (next_ack v) then 0 else min (seq_sub edge (next_ack v) / 2 ^ v.remote_win_shift) 65535

abbrev pub edge_sent : View → TcpSeqNumber → TcpSeqNumber
edge_sent v ack = seq_add ack (v.remote_last_win * 2 ^ v.remote_win_shift)

abbrev pub is_doubled : View → Option TcpSeqNumber → Bool
is_doubled v None = false
is_doubled v (Some ack) = not (space_field v == 0) && nat_le (field_left v (edge_sent v ack)) (space_field v / 2)

-- the window has at least doubled since it was sent; by the RFCs' rules its right edge may move on, too
unfoldable pub window_doubled : View → Bool
window_doubled v = tells_window v.state && (is_doubled v v.remote_last_ack && may_grow v.rules v)

-- ---- the reasons in their order

-- data; an acknowledgement whose delay is over, or bytes that have waited; a larger window; the RST of a closed socket;
-- a keep-alive; a probe
unfoldable pub is_due : View → Tuple → Facts → Bool
is_due v t f =
    data_due v t f
    || is_reached (held_poll v) (moment_of f)
    || window_doubled v
    || is_closed v.state
    || is_keep_alive_over v.timer (moment_of f)
    || is_probe_over v.timer (moment_of f)
