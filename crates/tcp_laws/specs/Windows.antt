-- Which window a socket tells, and which number it sends, by the RFCs' rules.
use Rattle.std.specs.Prelude.{ℕ, ◌≡◌, ◌+◌, ◌-◌, ◌*◌, ◌/◌, ◌^◌, ◌<◌, ◌≤◌, length, min, Some, true, false}
use Rattle.ip_wire.specs.declared.repr.IpRepr.{IpRepr}
use Rattle.net_base.specs.declared.time.Instant.{Instant}
use Rattle.control_wire.specs.Segment.{Segment, segment_len}
use Rattle.control_wire.specs.declared.seq_number.TcpSeqNumber.{TcpSeqNumber}
use Rattle.sock_core.specs.Received.{room_of}
use Rattle.sock_core.specs.Seq.{is_before}
use Rattle.sock_tcp.specs.Acked.{acked_of}
use Rattle.sock_tcp.specs.Content.{of_kind}
use Rattle.sock_tcp.specs.Due.{edge_sent, field_left, is_closed, tells_window, window_doubled, window_field}
use Rattle.sock_tcp.specs.Process.{processed}
use Rattle.sock_tcp.specs.Rfc.Numbers.{numbered}
use Rattle.sock_tcp.specs.Rfc.OwnWindow.{space_field, told_left}
use Rattle.sock_tcp.specs.Rfc.Checks.{checked, verdict_by}
use Rattle.sock_tcp.specs.Rfc.Windows.{ack_heeded, is_ignored, is_newer, windowed}
use Rattle.sock_tcp.specs.Steps.{heard}
use Rattle.sock_tcp.specs.View.{View}
use Rattle.sock_tcp.specs.Window.{has_window}
use Rattle.sock_tcp.specs.declared.acked.Acked.{Acked}
use Rattle.sock_tcp.specs.declared.advance.Next.TheVariants as next
use Rattle.sock_tcp.specs.declared.emission.Kind.TheVariants as kind
use Rattle.sock_tcp.specs.declared.rules.Rules.TheVariants as rules
use Rattle.sock_tcp.specs.declared.verdict.Verdict.TheVariants as verdicts
use Rattle.tcp_laws.specs.Polling.{IsReached}

-- The right edge of the window that a segment tells now, in bytes behind RCV.NXT, lies less than one unit of the window
-- field before the one that was told, as far as the largest field reaches
abbrev pub RightEdgeStays : Type 0
RightEdgeStays = (v : View)
    → IsReached v
    → v.rules ≡ rules.Rfc
    → min (told_left v) (65535 * 2 ^ v.remote_win_shift)
    < window_field v * 2 ^ v.remote_win_shift + 2 ^ v.remote_win_shift

-- The window of a keep-alive, which does not count as told, ends there too, but for less than such a unit
abbrev pub KeepAliveMovesNoEdge : Type 0
KeepAliveMovesNoEdge = (v : View) (s : Segment)
    → IsReached v
    → v.rules ≡ rules.Rfc
    → (min (told_left v) (65535 * 2 ^ v.remote_win_shift)
    < (of_kind kind.KeepAlive v s).window_len * 2 ^ v.remote_win_shift + 2 ^ v.remote_win_shift)
    × ((of_kind kind.KeepAlive v s).window_len * 2 ^ v.remote_win_shift < told_left v + 2 ^ v.remote_win_shift)

-- Less space is free behind it than half of the receive buffer, and than a segment of the connection
abbrev pub IsSmallGrowth : View → Type 0
IsSmallGrowth v = length v.rx_buffer.held - told_left v < min (room_of v.rx_buffer / 2) v.remote_mss

-- It moves on by less than a unit then, and is not told by itself
abbrev pub NoWindowByBytes : Type 0
NoWindowByBytes = (v : View)
    → v.rules ≡ rules.Rfc
    → IsSmallGrowth v
    → (window_field v * 2 ^ v.remote_win_shift < told_left v + 2 ^ v.remote_win_shift)
    × (window_doubled v ≡ false)

-- Else a window is told at once where the field that went out last tells none any more
abbrev pub OpenedWindowIsTold : Type 0
OpenedWindowIsTold = (v : View) (ack : TcpSeqNumber)
    → v.rules ≡ rules.Rfc
    → (IsSmallGrowth v → ⊥)
    → tells_window v.state ≡ true
    → v.remote_last_ack ≡ Some ack
    → field_left v (edge_sent v ack) ≡ 0
    → 0 < space_field v
    → window_doubled v ≡ true

-- A segment that is older than the one that told the peer's window leaves, where it is heard, at most what is left of
-- that window behind what it acknowledges; and whatever is done with it, the window is not larger then
abbrev pub OlderWindowIsNotTaken : Type 0
OlderWindowIsNotTaken = (v : View) (now : Instant) (word : ℕ) (ip : IpRepr) (s : Segment)
    → v.rules ≡ rules.Rfc
    → is_newer v.snd_wl1 v.snd_wl2 s ≡ false
    → ((a : Acked) → (heard v now a (windowed v.rules v s)).remote_win_len
    ≤ v.remote_win_len - (acked_of v s.control (ack_heeded rules.Rfc v s s.ack_number)).len)
    × ((processed v now word ip s).view.remote_win_len ≤ v.remote_win_len)

-- What takes no number has one that does not lie before SND.NXT, though that went back; where the own SYN was sent, and
-- the socket is not closed
abbrev pub NumberIsNotBehind : Type 0
NumberIsNotBehind = (v : View) (s : Segment)
    → IsReached v
    → v.rules ≡ rules.Rfc
    → is_closed v.state ≡ false
    → has_window v.state ≡ true
    → segment_len s ≡ 0
    → is_before (numbered v s).seq_number v.remote_last_seq ≡ false

-- Where an acknowledgement is ignored, and the checks before it let the segment go on, it passes: it is not dropped for
-- the age of what it acknowledges
abbrev pub OldAcknowledgementPasses : Type 0
OldAcknowledgementPasses = (v : View) (now : Instant) (s : Segment)
    → IsReached v
    → v.rules ≡ rules.Rfc
    → is_ignored v s s.ack_number ≡ true
    → checked v now s ≡ next.Continue
    → verdict_by v.rules v now s ≡ verdicts.Pass
